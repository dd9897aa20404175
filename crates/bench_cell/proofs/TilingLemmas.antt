-- Benches that fit claims which tile a total: each tuple below it is in just one of them.
use Rattle.std.proofs.Common.{◌≡◌, ◌⊎◌, ◌||◌, ◌&&◌, ◌+◌, ◌<◌, ◌≤◌, ℕ, zero, suc, Bool, true, false, All, List, [], ◌∷◌, Some, arith, cond, refl, ap}
use Rattle.std.proofs.Common.{leb, ltb, eqb, subst, sym, ◌∙◌, inl, inr, length, map, reverse, slice_get, ⊎_elim}
use Rattle.std.specs.Option.{IsSome}
use Rattle.std.proofs.lemmas.Bool.{cases_lt, eq-eqb, eqb-true, leb-true, le-leb, lt-ltb, ltb-true}
use Rattle.std.proofs.lemmas.List.Elements.{All-head, All-tail}
use Rattle.std.proofs.lemmas.Option.{none-some}
use Rattle.plan_ast.specs.Folds.{Tuples, range_of}
use Rattle.pipe_ops.specs.StageResults.{AreAllDisjoint, union_of}
use Rattle.slot_history.specs.Histories.{Morsel, Tiles, ranges_by}
use Rattle.bench_cell.specs.Benches.{BenchFits, IsShort, bench_tuples, ranges_in, tuples_in}
use Rattle.bench_cell.specs.Gathering.{CoverTotal, IsWhole}
use Rattle.bench_cell.specs.Plans.{total_of}
use Rattle.bench_cell.specs.Tilings.{FitClaims}
use Rattle.bench_cell.specs.declared.bench.Bench.{Bench}
use Rattle.bench_cell.specs.declared.plan.Plan.{Plan}
use Rattle.bench_cell.proofs.ApartLemmas.{reversed_tuples}

either_true : (a b : Bool) → (a || b) ≡ true → (a ≡ true) ⊎ (b ≡ true)
either_true true b is = inl refl
either_true false b is = inr is

or_right : (a b : Bool) → b ≡ true → (a || b) ≡ true
or_right true b is = refl
or_right false b is = is

pub both_true : (a b : Bool) → (a && b) ≡ true → (a ≡ true) × (b ≡ true)
both_true true b is = (refl, is)
both_true false b is = cc

never_both : (a b : Bool) → (a ≡ true → b ≡ true → ⊥) → (a && b) ≡ false
never_both false b never = refl
never_both true false never = refl
never_both true true never = absurd (never refl refl)

range_bounds : (from to tuple : ℕ) → range_of from to tuple ≡ true → (from ≤ tuple) × (tuple < to)
range_bounds from to tuple is =
    let both = both_true (leb from tuple) (ltb tuple to) is in
    (leb-true from tuple both.0, ltb-true tuple to both.1)

range_has : (from to tuple : ℕ) → from ≤ tuple → tuple < to → range_of from to tuple ≡ true
range_has from to tuple low high = ap (λ b. b && ltb tuple to) (le-leb from tuple low) ∙ lt-ltb tuple to high

-- the tuples that a worker claimed
abbrev pub taken_by : List Morsel → ℕ → Tuples
taken_by claims w = tuples_in (ranges_by w claims)

-- the tuples of one claim more, by whether it is the worker's
abbrev taken_if : Bool → Morsel → List Morsel → ℕ → Tuples
taken_if own claim claims w = tuples_in (cond own ((claim.from, claim.to) ∷ ranges_by w claims) (ranges_by w claims))

taken_cases : (own : Bool) (claim : Morsel) (claims : List Morsel) (w tuple : ℕ) → taken_if own claim claims w tuple ≡ true
    → ((own ≡ true) × (claim.from ≤ tuple) × (tuple < claim.to)) ⊎ (taken_by claims w tuple ≡ true)
taken_cases false claim claims w tuple is = inr is
taken_cases true claim claims w tuple is =
    ⊎_elim (λ here. let bounds = range_bounds claim.from claim.to tuple here in inl (refl, bounds.0, bounds.1)) (λ there. inr there)
    (either_true (range_of claim.from claim.to tuple) (taken_by claims w tuple) is)

taken_before : (own : Bool) (claim : Morsel) (claims : List Morsel) (w tuple : ℕ) → taken_by claims w tuple ≡ true → taken_if own claim claims w tuple ≡ true
taken_before false claim claims w tuple is = is
taken_before true claim claims w tuple is = or_right (range_of claim.from claim.to tuple) (taken_by claims w tuple) is

taken_here : (claim : Morsel) (claims : List Morsel) (tuple : ℕ) → claim.from ≤ tuple → tuple < claim.to → taken_by (claim ∷ claims) claim.worker tuple ≡ true
taken_here claim claims tuple low high =
    ap (λ own. taken_if own claim claims claim.worker tuple) (eq-eqb claim.worker claim.worker refl)
    ∙ ap (λ b. b || taken_by claims claim.worker tuple) (range_has claim.from claim.to tuple low high)

taken_below : (claims : List Morsel) (total w tuple : ℕ) → Tiles claims total → taken_by claims w tuple ≡ true → tuple < total
taken_below [] total w tuple tiles is = cc
taken_below (claim ∷ claims) total w tuple tiles is =
    ⊎_elim (λ own. omega (arith, own.2, tiles.0)) (λ rest. let low = taken_below claims claim.from w tuple tiles.2 rest in omega (arith, low, tiles.0, tiles.1))
    (taken_cases (eqb w claim.worker) claim claims w tuple is)

-- no tuple is claimed by two workers
one_owner : (claims : List Morsel) (total v w tuple : ℕ) → Tiles claims total → taken_by claims v tuple ≡ true → taken_by claims w tuple ≡ true → v ≡ w
one_owner [] total v w tuple tiles one other = cc
one_owner (claim ∷ claims) total v w tuple tiles one other =
    let low : (u : ℕ) → taken_by claims u tuple ≡ true → tuple < claim.from = λ u is. taken_below claims claim.from u tuple tiles.2 is in
    ⊎_elim
    (λ mine. ⊎_elim (λ his. eqb-true v claim.worker mine.0 ∙ sym (eqb-true w claim.worker his.0))
    (λ rest. let high = low w rest in absurd (omega (arith, high, mine.1)))
    (taken_cases (eqb w claim.worker) claim claims w tuple other))
    (λ rest. ⊎_elim (λ his. let high = low v rest in absurd (omega (arith, high, his.1)))
    (λ more. one_owner claims claim.from v w tuple tiles.2 rest more)
    (taken_cases (eqb w claim.worker) claim claims w tuple other))
    (taken_cases (eqb v claim.worker) claim claims v tuple one)

-- a worker that claimed a tuple
abbrev Owner : List Morsel → ℕ → ℕ → Type 0
Owner claims n tuple = (w : ℕ) × (w < n) × (taken_by claims w tuple ≡ true)

-- each tuple below the total is claimed
some_owner : (claims : List Morsel) (total n tuple : ℕ) → Tiles claims total → All (λ (claim : Morsel). claim.worker < n) claims → tuple < total
    → Owner claims n tuple
some_owner [] total n tuple tiles within below = absurd (omega (arith, below, tiles))
some_owner (claim ∷ claims) total n tuple tiles within below =
    let his : claim.worker < n = All-head (λ (c : Morsel). c.worker < n) claim claims within in
    let rest = All-tail (λ (c : Morsel). c.worker < n) claim claims within in
    ⊎_elim
    (λ early. let owner = some_owner claims claim.from n tuple tiles.2 rest early in
    (owner.0, owner.1, taken_before (eqb owner.0 claim.worker) claim claims owner.0 tuple owner.2))
    (λ late. (claim.worker, his, taken_here claim claims tuple late (omega (arith, below, tiles.0))))
    (cases_lt tuple claim.from)

-- ---- benches

-- benches of the workers from k on hold the tuples that these claimed
abbrev HoldFrom : List Morsel → ℕ → List Bench → Type 0
HoldFrom claims k benches = (i : ℕ) (bench : Bench) → slice_get benches i ≡ Some bench → (tuple : ℕ) → bench_tuples bench tuple ≡ taken_by claims (k + i) tuple

hold_rest : (claims : List Morsel) (k : ℕ) (bench : Bench) (benches : List Bench) → HoldFrom claims k (bench ∷ benches) → HoldFrom claims (suc k) benches
hold_rest claims k bench benches hold = λ i other at tuple. hold (suc i) other at tuple ∙ ap (λ n. taken_by claims n tuple) (omega arith)

hold_first : (claims : List Morsel) (k : ℕ) (bench : Bench) (benches : List Bench) → HoldFrom claims k (bench ∷ benches) → (tuple : ℕ)
    → bench_tuples bench tuple ≡ taken_by claims k tuple
hold_first claims k bench benches hold tuple = hold 0 bench refl tuple ∙ ap (λ n. taken_by claims n tuple) (omega arith)

union_has : (claims : List Morsel) (k w tuple : ℕ) (benches : List Bench) → HoldFrom claims k benches → k ≤ w → w < k + length benches
    → taken_by claims w tuple ≡ true
    → union_of (map bench_tuples benches) tuple ≡ true
union_has claims k w tuple [] hold low high is = absurd (omega (arith, low, high))
union_has claims k w tuple (bench ∷ benches) hold low high is =
    ⊎_elim
    (λ later. or_right (bench_tuples bench tuple) (union_of (map bench_tuples benches) tuple)
    (union_has claims (suc k) w tuple benches (hold_rest claims k bench benches hold) (omega (arith, later)) (omega (arith, high)) is))
    (λ upto. let same : k ≡ w = omega (arith, low, upto) in
    ap (λ b. b || union_of (map bench_tuples benches) tuple) (hold_first claims k bench benches hold tuple ∙ ap (λ n. taken_by claims n tuple) same ∙ is))
    (cases_lt k w)

union_owner : (claims : List Morsel) (k tuple : ℕ) (benches : List Bench) → HoldFrom claims k benches → union_of (map bench_tuples benches) tuple ≡ true
    → (w : ℕ) × (k ≤ w) × (taken_by claims w tuple ≡ true)
union_owner claims k tuple [] hold is = cc
union_owner claims k tuple (bench ∷ benches) hold is =
    ⊎_elim (λ here. (k, omega arith, sym (hold_first claims k bench benches hold tuple) ∙ here))
    (λ there. let owner = union_owner claims (suc k) tuple benches (hold_rest claims k bench benches hold) there in (owner.0, omega (arith, owner.1), owner.2))
    (either_true (bench_tuples bench tuple) (union_of (map bench_tuples benches) tuple) is)

apart_from : (claims : List Morsel) (total k : ℕ) (benches : List Bench) → Tiles claims total → HoldFrom claims k benches
    → AreAllDisjoint (map bench_tuples benches)
apart_from claims total k [] tiles hold = tt
apart_from claims total k (bench ∷ benches) tiles hold =
    let rest : HoldFrom claims (suc k) benches = hold_rest claims k bench benches hold in (
      λ tuple. never_both (bench_tuples bench tuple) (union_of (map bench_tuples benches) tuple)
          (λ here there. let owner = union_owner claims (suc k) tuple benches rest there in
          let same = one_owner claims total k owner.0 tuple tiles (sym (hold_first claims k bench benches hold tuple) ∙ here) owner.2 in
          omega (arith, same, owner.1)),
      apart_from claims total (suc k) benches tiles rest,
    )

-- an element of a list
All-at : {A : Type 0} (P : A → Type 0) (xs : List A) (i : ℕ) (x : A) → All P xs → slice_get xs i ≡ Some x → P x
All-at P [] i x all is = absurd (none-some x is)
All-at P (y ∷ ys) zero x all is = let same : y ≡ x = cc in subst P same (All-head P y ys all)
All-at P (y ∷ ys) (suc i) x all is = All-at P ys i x (All-tail P y ys all) is

-- the ranges of a bench that is not short
pub whole_ranges : (bench : Bench) (ranges : List (ℕ × ℕ)) → IsWhole bench → IsShort bench ⊎ (ranges_in bench ≡ reverse ranges)
    → ranges_in bench ≡ reverse ranges
whole_ranges bench ranges whole (inl short) = let never : false ≡ true = subst IsSome short whole in cc
whole_ranges bench ranges whole (inr same) = same

-- the ranges of benches that fit claims, if none is short
pub fitted_ranges : (plan : Plan) (id : ℕ) (claims : List Morsel) (benches : List Bench) → FitClaims plan id claims benches → All IsWhole benches
    → (i : ℕ) (bench : Bench) → slice_get benches i ≡ Some bench → ranges_in bench ≡ reverse (ranges_by i claims)
fitted_ranges plan id claims benches fit whole i bench at =
    let fits : BenchFits plan i id (ranges_by i claims) bench = fit.each i bench at in
    whole_ranges bench (ranges_by i claims) (All-at IsWhole benches i bench whole at) fits.worked

hold_all : (plan : Plan) (id : ℕ) (claims : List Morsel) (benches : List Bench) → FitClaims plan id claims benches → All IsWhole benches
    → HoldFrom claims 0 benches
hold_all plan id claims benches fit whole = λ i bench at tuple.
    ap (λ (l : List (ℕ × ℕ)). tuples_in l tuple) (fitted_ranges plan id claims benches fit whole i bench at)
    ∙ reversed_tuples (ranges_by i claims) tuple ∙ ap (λ n. taken_by claims n tuple) (omega arith)

-- they cover the total, and are apart
pub tiles_cover : (plan : Plan) (id total : ℕ) (claims : List Morsel) (benches : List Bench) → total_of plan id ≡ Some total → Tiles claims total
    → FitClaims plan id claims benches → All IsWhole benches → CoverTotal plan id total benches
tiles_cover plan id total claims benches is tiles fit whole =
    let hold : HoldFrom claims 0 benches = hold_all plan id claims benches fit whole in
    record {
      total_is = is;
      apart = apart_from claims total 0 benches tiles hold;
      cover = λ tuple below. let owner = some_owner claims total (length benches) tuple tiles fit.within below in
          union_has claims 0 owner.0 tuple benches hold (omega arith) (omega (arith, owner.1)) owner.2;
    }
