-- Aggregates over joined lists.
use Rattle.std.proofs.Common.{◌≡◌, ℕ, ℤ, pos, ◌+◌, ◌*◌, ◌^◌, ◌+ℤ◌, ◌≤◌, List, [], ◌∷◌, ◌++◌, Some, All, length, fold, refl, sym, ap, ◌∙◌, arith}
use Rattle.std.proofs.Common.{length-append}
use Rattle.std.specs.Int.{w64, w128, int_min, int_max, int_wrap}
use Rattle.std.specs.Int.RustNames.{FitsSigned}
use Rattle.std.specs.List.{reduce}
use Rattle.std.proofs.Math.IntN.{+ℤ_assoc, +ℤ_idr}
use Rattle.std.proofs.lemmas.Int.{ints, clamps, int_wrap_fits}
use Rattle.std.proofs.lemmas.List.{append-nil}
use Rattle.std.proofs.lemmas.List.Elements.{All-head, All-tail, All-append}
use Rattle.std.proofs.lemmas.List.Sums.{fold-append}
use Rattle.plan_ast.specs.Answer.{aggregate}
use Rattle.plan_ast.specs.declared.queries.Func.{Func}
use Rattle.plan_ast.specs.declared.queries.Func.TheVariants.{Count, Sum, Min, Max}
use Rattle.plan_ast.specs.declared.answers.AggValue.TheVariants as agg_value
use Rattle.plan_ast.specs.Aggregates.{merged}
use Rattle.build_sides.specs.Columns.{wrapped_agg_sum}
use borrow.Author.Differences.{up, down, fits_in, fits_out}

-- a fold may begin anywhere
fold_from : {A : Type 0} (f : A → A → A) → ((a b c : A) → f (f a b) c ≡ f a (f b c)) → (a b : A) (xs : List A) → fold f (f a b) xs ≡ f a (fold f b xs)
fold_from f assoc a b [] = refl
fold_from f assoc a b (x ∷ xs) = ap (λ z. fold f z xs) (assoc a b x) ∙ fold_from f assoc a (f b x) xs

reduce-append : {A : Type 0} (f : A → A → A) → ((a b c : A) → f (f a b) c ≡ f a (f b c)) → (xs ys : List A)
    → merged f (reduce f xs) (reduce f ys) ≡ reduce f (xs ++ ys)
reduce-append f assoc [] ys = refl
reduce-append f assoc (x ∷ xs) [] = ap (λ l. Some (fold f x l)) (sym (append-nil xs))
reduce-append f assoc (x ∷ xs) (y ∷ ys) = ap (λ z. Some z) (sym (fold-append f x xs (y ∷ ys) ∙ fold_from f assoc (fold f x xs) y ys))

int_min_assoc : (a b c : ℤ) → int_min (int_min a b) c ≡ int_min a (int_min b c)
int_min_assoc a b c = omega (arith, ints, clamps)

int_max_assoc : (a b c : ℤ) → int_max (int_max a b) c ≡ int_max a (int_max b c)
int_max_assoc a b c = omega (arith, ints, clamps)

sum-append : (xs ys : List ℤ) → fold ◌+ℤ◌ (pos 0) xs +ℤ fold ◌+ℤ◌ (pos 0) ys ≡ fold ◌+ℤ◌ (pos 0) (xs ++ ys)
sum-append xs ys =
    let sum = fold ◌+ℤ◌ (pos 0) xs in
    sym (fold-append ◌+ℤ◌ (pos 0) xs ys ∙ ap (λ z. fold ◌+ℤ◌ z ys) (sym (+ℤ_idr sum)) ∙ fold_from ◌+ℤ◌ +ℤ_assoc sum (pos 0) ys)

-- a number lies at most so far from 0
pub record Within (z : ℤ) (bound : ℕ) : Type 0 where
  pub above : up z ≤ down z + bound
  pub below : down z ≤ up z + bound

-- a sum of 64-bit numbers lies at most as many times 2 ^ 63 from 0
sum_within : (a : ℤ) (n : ℕ) (xs : List ℤ) → All (FitsSigned w64) xs → Within a (n * 2 ^ 63) → Within (fold ◌+ℤ◌ a xs) ((n + length xs) * 2 ^ 63)
sum_within a n [] fit h = record { above = omega (arith, h.above); below = omega (arith, h.below) }
sum_within a n (x ∷ xs) fit h =
    let fits = fits_out w64 x (All-head (FitsSigned w64) x xs fit) in
    let next : Within (a +ℤ x) ((n + 1) * 2 ^ 63) = record { above = omega (arith, ints, h.above, fits); below = omega (arith, ints, h.below, fits) } in
    let rest = sum_within (a +ℤ x) (n + 1) xs (All-tail (FitsSigned w64) x xs fit) next in
    record { above = omega (arith, rest.above); below = omega (arith, rest.below) }

sum_fits : (xs : List ℤ) → All (FitsSigned w64) xs → length xs ≤ 2 ^ 62 → FitsSigned w128 (fold ◌+ℤ◌ (pos 0) xs)
sum_fits xs fit few =
    let h = sum_within (pos 0) 0 xs fit (record { above = omega (arith, ints); below = omega (arith, ints) }) in
    fits_in w128 (fold ◌+ℤ◌ (pos 0) xs) (omega (arith, h.above, h.below))

-- two totals together are the total of both lists
pub merged-aggregates : (func : Func) (xs ys : List ℤ) → All (FitsSigned w64) xs → All (FitsSigned w64) ys → length xs + length ys ≤ 2 ^ 62
    → wrapped_agg_sum (aggregate func xs) (aggregate func ys) ≡ aggregate func (xs ++ ys)
merged-aggregates Count xs ys fit_xs fit_ys few = ap (λ n. agg_value.Count n) (omega (arith, length-append xs ys))
merged-aggregates Sum xs ys fit_xs fit_ys few =
    let fits : FitsSigned w128 (fold ◌+ℤ◌ (pos 0) (xs ++ ys)) =
    sum_fits (xs ++ ys) (All-append (FitsSigned w64) xs ys fit_xs fit_ys) (omega (arith, length-append xs ys)) in
    ap (λ z. agg_value.Sum z) (ap (int_wrap w128) (sum-append xs ys) ∙ int_wrap_fits w128 (fold ◌+ℤ◌ (pos 0) (xs ++ ys)) fits)
merged-aggregates Min xs ys fit_xs fit_ys few = ap (λ z. agg_value.Least z) (reduce-append int_min int_min_assoc xs ys)
merged-aggregates Max xs ys fit_xs fit_ys few = ap (λ z. agg_value.Greatest z) (reduce-append int_max int_max_assoc xs ys)
