-- Ranges past those of a bench have no tuple in common with it.
use Rattle.std.proofs.Common.{◌≡◌, ◌⊎◌, ◌||◌, ◌&&◌, ◌≤◌, ℕ, Bool, true, false, All, List, [], ◌∷◌, arith, refl, ap, ltb, leb, ◌∙◌, reverse, inl, inr}
use Rattle.std.proofs.lemmas.Bool.{leb-true, ltb-true}
use Rattle.std.proofs.lemmas.List.{reverse-append}
use Rattle.std.proofs.lemmas.List.Elements.{All-head, All-tail}
use Rattle.plan_ast.specs.Folds.{AreDisjoint, range_of}
use Rattle.bench_cell.specs.Benches.{BenchFits, IsShort, bench_tuples, ranges_in, tuples_in}
use Rattle.bench_cell.specs.declared.bench.Bench.{Bench}
use Rattle.bench_cell.specs.declared.plan.Plan.{Plan}
use Rattle.bench_cell.proofs.BenchLemmas.{more_tuples}

clash : (a b c d : Bool) → (b ≡ true → c ≡ true → ⊥) → ((a && b) && (c && d)) ≡ false
clash false b c d never = refl
clash true false c d never = refl
clash true true false d never = refl
clash true true true d never = absurd (never refl refl)

either : (a b c : Bool) → (a && c) ≡ false → (b && c) ≡ false → ((a || b) && c) ≡ false
either true b c one other = one
either false b c one other = other

or_swapped : (a b : Bool) → (a || b) ≡ (b || a)
or_swapped true true = refl
or_swapped true false = refl
or_swapped false true = refl
or_swapped false false = refl

past : (ranges : List (ℕ × ℕ)) (from to tuple : ℕ) → All (λ (r : ℕ × ℕ). r.1 ≤ from) ranges → (tuples_in ranges tuple && range_of from to tuple) ≡ false
past [] from to tuple all = refl
past (r ∷ ranges) from to tuple all =
    let below : r.1 ≤ from = All-head (λ (q : ℕ × ℕ). q.1 ≤ from) r ranges all in
    either (range_of r.0 r.1 tuple) (tuples_in ranges tuple) (range_of from to tuple)
    (clash (leb r.0 tuple) (ltb tuple r.1) (leb from tuple) (ltb tuple to)
    (λ one other. omega (arith, below, ltb-true tuple r.1 one, leb-true from tuple other)))
    (past ranges from to tuple (All-tail (λ (q : ℕ × ℕ). q.1 ≤ from) r ranges all))

-- the tuples of ranges in the reverse order
pub reversed_tuples : (ranges : List (ℕ × ℕ)) (tuple : ℕ) → tuples_in (reverse ranges) tuple ≡ tuples_in ranges tuple
reversed_tuples [] tuple = refl
reversed_tuples (r ∷ ranges) tuple =
    ap (λ (l : List (ℕ × ℕ)). tuples_in l tuple) (reverse-append (r ∷ []) ranges) ∙ more_tuples (reverse ranges) r.0 r.1 tuple
    ∙ or_swapped (tuples_in (reverse ranges) tuple) (range_of r.0 r.1 tuple)
    ∙ ap (λ b. range_of r.0 r.1 tuple || b) (reversed_tuples ranges tuple)

worked_apart : (from to : ℕ) (bench : Bench) (ranges : List (ℕ × ℕ)) → All (λ (r : ℕ × ℕ). r.1 ≤ from) ranges
    → IsShort bench ⊎ (ranges_in bench ≡ reverse ranges) → IsShort bench ⊎ AreDisjoint (bench_tuples bench) (range_of from to)
worked_apart from to bench ranges all (inl short) = inl short
worked_apart from to bench ranges all (inr same) =
    inr (λ tuple. ap (λ b. b && range_of from to tuple) (ap (λ (l : List (ℕ × ℕ)). tuples_in l tuple) same ∙ reversed_tuples ranges tuple)
    ∙ past ranges from to tuple all)

-- a range past all ranges that a bench fits has no tuple in common with it
pub past_apart : (plan : Plan) (worker id : ℕ) (ranges : List (ℕ × ℕ)) (bench : Bench) (from to : ℕ) → BenchFits plan worker id ranges bench
    → All (λ (r : ℕ × ℕ). r.1 ≤ from) ranges → IsShort bench ⊎ AreDisjoint (bench_tuples bench) (range_of from to)
past_apart plan worker id ranges bench from to fits all = worked_apart from to bench ranges all fits.worked
