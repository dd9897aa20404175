-- Lists that have each element as often.
use Rattle.std.proofs.Common.{◌≡◌, ℕ, ◌+◌, ◌≤◌, List, [], ◌∷◌, refl, ap, arith}
use Rattle.std.specs.List.{sum_by}
use Rattle.std.proofs.lemmas.List.Sums.{sum_by-cons}

-- a list has its first element, by a weight that tells equal elements
pub has_first : {A : Type 0} (weight : A → A → ℕ) (x : A) (xs : List A) → weight x x ≡ 1 → 1 ≤ sum_by (weight x) (x ∷ xs)
has_first weight x xs itself =
    let all = sum_by-cons (weight x) x xs in
    omega (arith, itself, all)

-- such lists are the same, if each is in an order, and lists in these orders that are such begin alike
pub same_lists : {A : Type 0} (weight : A → A → ℕ) (Up Above : List A → Type 0) → ((x : A) → weight x x ≡ 1)
    → ((x : A) (xs : List A) → Up (x ∷ xs) → Up xs) → ((y : A) (ys : List A) → Above (y ∷ ys) → Above ys)
    → ((x y : A) (xs ys : List A) → Up (x ∷ xs) → Above (y ∷ ys) → ((e : A) → sum_by (weight e) (x ∷ xs) ≡ sum_by (weight e) (y ∷ ys)) → x ≡ y)
    → (xs ys : List A) → Up xs → Above ys → ((e : A) → sum_by (weight e) xs ≡ sum_by (weight e) ys) → xs ≡ ys
same_lists weight Up Above itself up_rest above_rest begin [] [] up above same = refl
same_lists weight Up Above itself up_rest above_rest begin [] (y ∷ ys) up above same =
    let some = has_first weight y ys (itself y) in
    let both = same y in
    absurd (omega (arith, some, both))
same_lists weight Up Above itself up_rest above_rest begin (x ∷ xs) [] up above same =
    let some = has_first weight x xs (itself x) in
    let both = same x in
    absurd (omega (arith, some, both))
same_lists weight Up Above itself up_rest above_rest begin (x ∷ xs) (y ∷ ys) up above same =
    let first : x ≡ y = begin x y xs ys up above same in
    let rest : xs ≡ ys = same_lists weight Up Above itself up_rest above_rest begin xs ys (up_rest x xs up) (above_rest y ys above) (λ e.
    let one = sum_by-cons (weight e) x xs in
    let other = sum_by-cons (weight e) y ys in
    let alike : weight e x ≡ weight e y = ap (weight e) first in
    let both = same e in
    omega (arith, one, other, alike, both)) in
    cc
