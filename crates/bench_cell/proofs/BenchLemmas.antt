-- What a bench holds after one more range.
use Rattle.std.proofs.Common.{◌≡◌, ◌⊎◌, ◌||◌, ◌++◌, ℕ, Bool, true, false, List, [], ◌∷◌, Option, Some, None, MatchOption, IfSome, refl, ap, sym}
use Rattle.std.proofs.Common.{subst, ◌∙◌, option_map, reverse, inl, inr}
use Rattle.std.proofs.Math.Path.{fun_ext}
use Rattle.std.proofs.lemmas.List.{reverse-append}
use Rattle.std.proofs.lemmas.Option.{none-some}
use Rattle.plan_ast.specs.Folds.{AreDisjoint, Tuples, range_of, union}
use Rattle.pipe_ops.specs.Inputs.{IsAccOf}
use Rattle.pipe_ops.specs.declared.acc.Acc.{Acc}
use Rattle.pipe_ops.specs.declared.inputs.Inputs.{Inputs}
use Rattle.bench_cell.specs.Benches.{BenchFits, HasWorked, IsShort, AreInputsOf, ranges_in, tuples_in}
use Rattle.bench_cell.specs.declared.bench.Bench.{Bench}
use Rattle.bench_cell.specs.declared.plan.Plan.{Plan}
use Rattle.std.specs.Arc.{arc_value}

or_false : (b : Bool) → (b || false) ≡ (false || b)
or_false true = refl
or_false false = refl

or_assoc : (a b c : Bool) → (a || (b || c)) ≡ ((a || b) || c)
or_assoc true b c = refl
or_assoc false b c = refl

pub more_tuples : (ranges : List (ℕ × ℕ)) (from to tuple : ℕ) → tuples_in (ranges ++ (from, to) ∷ []) tuple ≡ union (tuples_in ranges) (range_of from to) tuple
more_tuples [] from to tuple = or_false (range_of from to tuple)
more_tuples (r ∷ ranges) from to tuple =
    ap (λ b. range_of r.0 r.1 tuple || b) (more_tuples ranges from to tuple)
    ∙ or_assoc (range_of r.0 r.1 tuple) (tuples_in ranges tuple) (range_of from to tuple)

-- the tuples of one range more
pub tuples_in-more : (ranges : List (ℕ × ℕ)) (from to : ℕ) → tuples_in (ranges ++ (from, to) ∷ []) ≡ union (tuples_in ranges) (range_of from to)
tuples_in-more ranges from to = fun_ext (more_tuples ranges from to)

-- what holds of a value in a box holds of what is in it
pub if_held : {A B : Type 0} (f : A → B) (P : B → Type 0) (o : Option A) → IfSome o (λ x. P (f x)) → IfSome (option_map f o) P
if_held f P (Some x) h = h
if_held f P None h = h

pub none_held : {A B : Type 0} (f : A → B) (P : Type 0) (o : Option A) → (o ≡ None) ⊎ P → (option_map f o ≡ None) ⊎ P
none_held f P o (inl none) = inl (ap (option_map f) none)
none_held f P o (inr h) = inr h

-- an accumulator that took one range more holds the fold over all of them
pub holds_more : (inputs : Inputs) (ranges more : List (ℕ × ℕ)) (from to : ℕ) (held : Option Acc) (acc : Acc) (next : Option Acc)
    → MatchOption held (Unit {0}) (IsAccOf inputs (tuples_in ranges)) → held ≡ Some acc
    → (held ≡ None) ⊎ AreDisjoint (tuples_in ranges) (range_of from to) → more ≡ ranges ++ (from, to) ∷ []
    → IfSome next (λ a. (done : Tuples) → AreDisjoint done (range_of from to) → IsAccOf inputs done acc → IsAccOf inputs (union done (range_of from to)) a)
    → MatchOption next (Unit {0}) (IsAccOf inputs (tuples_in more))
holds_more inputs ranges more from to held acc None holds is apart noted took = tt
holds_more inputs ranges more from to held acc (Some a) holds is (inl short) noted took = absurd (none-some acc (sym short ∙ is))
holds_more inputs ranges more from to held acc (Some a) holds is (inr apart) noted took =
    subst (λ t. IsAccOf inputs t a) (sym (ap tuples_in noted ∙ tuples_in-more ranges from to))
    (took (tuples_in ranges) apart (subst (λ o. MatchOption o (Unit {0}) (IsAccOf inputs (tuples_in ranges))) is holds))

fits_ranges : (from to : ℕ) (old new : Bench) (ranges : List (ℕ × ℕ)) → (IsShort old → IsShort new)
    → IsShort new ⊎ (ranges_in new ≡ ranges_in old ++ (from, to) ∷ []) → IsShort old ⊎ (ranges_in old ≡ reverse ranges)
    → IsShort new ⊎ (ranges_in new ≡ reverse ((from, to) ∷ ranges))
fits_ranges from to old new ranges stays (inl short) worked = inl short
fits_ranges from to old new ranges stays (inr noted) (inl short) = inl (stays short)
fits_ranges from to old new ranges stays (inr noted) (inr same) =
    inr (noted ∙ ap (λ (l : List (ℕ × ℕ)). l ++ (from, to) ∷ []) same ∙ sym (reverse-append ((from, to) ∷ []) ranges))

-- a bench that fitted ranges fits these and the one that it worked on
pub fits_more : (from to : ℕ) (old new : Bench) → HasWorked from to old new → (plan : Plan) (worker id : ℕ) (ranges : List (ℕ × ℕ))
    → BenchFits plan worker id ranges old → BenchFits plan worker id ((from, to) ∷ ranges) new
fits_more from to old new work plan worker id ranges fits = record {
  worker_is = work.worker ∙ fits.worker_is;
  of_set = record {
    id_is = work.id ∙ fits.of_set.id_is;
    inputs = subst (λ i. AreInputsOf plan id (arc_value i)) (sym work.inputs) fits.of_set.inputs;
    bench_is = work.bench_is;
  };
  worked = fits_ranges from to old new ranges work.stays work.noted fits.worked;
}
