-- Items of lists that are joined, and numbers that ascend along them.
use Rattle.std.proofs.Common.{◌≡◌, ℕ, zero, suc, ◌+◌, ◌<◌, ◌≤◌, List, [], ◌∷◌, ◌++◌, Some, slice_get, refl, sym, ap, subst, arith}
use Rattle.std.specs.Prelude.{All, flat_map, unwrap_or}
use Rattle.std.proofs.lemmas.List.Elements.{All-nil, All-append}
use Rattle.std.proofs.lemmas.Option.{slice_get-get_or, slice_get_within, get_or_from_slice_get}
use Rattle.turn_model.specs.Reports.{Ascend, Has}

module _ {A : Type 0} where
  pub some-same : (x y : A) → Some x ≡ Some y → x ≡ y
  some-same x y e = ap (λ o. unwrap_or o x) e

  -- what holds of each item, by its place
  pub all-of : (P : A → Type 0) (xs : List A) → ((i : ℕ) (x : A) → slice_get xs i ≡ Some x → P x) → All P xs
  all-of P xs each = λ i d low. each i _ (slice_get-get_or xs i d low)

  pub all-at : (P : A → Type 0) (xs : List A) → All P xs → (i : ℕ) (x : A) → slice_get xs i ≡ Some x → P x
  all-at P xs all i x got = subst P (get_or_from_slice_get xs i x x got) (all i x (slice_get_within xs i x got))

  module _ (P : A → Type 0) where
    pub has-left : (xs ys : List A) → Has P xs → Has P (xs ++ ys)
    has-left [] ys (i, x, got, p) = absurd (cc)
    has-left (z ∷ xs) ys (zero, x, got, p) = (zero, x, got, p)
    has-left (z ∷ xs) ys (suc i, x, got, p) = let r = has-left xs ys (i, x, got, p) in (suc r.0, r.1, r.2, r.3)

    pub has-right : (xs ys : List A) → Has P ys → Has P (xs ++ ys)
    has-right [] ys has = has
    has-right (z ∷ xs) ys has = let r = has-right xs ys has in (suc r.0, r.1, r.2, r.3)

  -- the numbers ascend along the list, from k on
  abbrev pub RisesBy : (A → ℕ) → ℕ → List A → Type 0
  RisesBy f k [] = Unit {0}
  RisesBy f k (x ∷ xs) = (k ≤ f x) × RisesBy f (f x + 1) xs

  module _ (f : A → ℕ) where
    rises-weak : (k m : ℕ) (xs : List A) → m ≤ k → RisesBy f k xs → RisesBy f m xs
    rises-weak k m [] less up = tt
    rises-weak k m (x ∷ xs) less up = (let a = up.0 in omega (arith, a, less), up.1)

    pub rises-append : (k m : ℕ) (xs ys : List A) → k ≤ m → RisesBy f k xs → ((i : ℕ) (x : A) → slice_get xs i ≡ Some x → f x < m) → RisesBy f m ys
        → RisesBy f k (xs ++ ys)
    rises-append k m [] ys less up below rest = rises-weak m k ys less rest
    rises-append k m (x ∷ xs) ys less up below rest =
        let low : f x < m = below zero x refl in
        (up.0, rises-append (f x + 1) m xs ys (omega (arith, low)) up.1 (λ i y got. below (suc i) y got) rest)

    pub rises-of : (k : ℕ) (xs : List A) → ((i : ℕ) (x : A) → slice_get xs i ≡ Some x → k ≤ f x) → Ascend f xs → RisesBy f k xs
    rises-of k [] from up = tt
    rises-of k (x ∷ xs) from up = (
      from zero x refl,
      rises-of (f x + 1) xs
          (λ i y got. let less : f x < f y = up zero (suc i) x y (omega arith) refl got in omega (arith, less))
          (λ i j y z less gy gz. up (suc i) (suc j) y z (omega (arith, less)) gy gz),
    )

    rises-at : (k i : ℕ) (xs : List A) (x : A) → RisesBy f k xs → slice_get xs i ≡ Some x → k ≤ f x
    rises-at k i [] x up got = absurd (cc)
    rises-at k zero (y ∷ xs) x up got = let a = up.0 in subst (λ z. k ≤ f z) (some-same y x got) a
    rises-at k (suc i) (y ∷ xs) x up got =
        let a = up.0 in
        let b : f y + 1 ≤ f x = rises-at (f y + 1) i xs x up.1 got in omega (arith, a, b)

    pub rises-ascend : (k : ℕ) (xs : List A) → RisesBy f k xs → Ascend f xs
    rises-ascend k [] up i j x y less gx gy = absurd (cc)
    rises-ascend k (z ∷ zs) up i zero x y less gx gy = absurd (omega (arith, less))
    rises-ascend k (z ∷ zs) up zero (suc j) x y less gx gy =
        let e : f z ≡ f x = ap f (some-same z x gx) in
        let b : f z + 1 ≤ f y = rises-at (f z + 1) j zs y up.1 gy in omega (arith, e, b)
    rises-ascend k (z ∷ zs) up (suc i) (suc j) x y less gx gy = rises-ascend (f z + 1) zs up.1 i j x y (omega (arith, less)) gx gy

-- ---- lists that are joined

module _ {A B : Type 0} (g : B → List A) where
  pub all-flat : (P : A → Type 0) (told : List B) → ((i : ℕ) (t : B) → slice_get told i ≡ Some t → All P (g t)) → All P (flat_map g told)
  all-flat P [] each = All-nil P
  all-flat P (t ∷ told) each = All-append P (g t) (flat_map g told) (each zero t refl) (all-flat P told (λ i u got. each (suc i) u got))

  pub has-flat : (P : A → Type 0) (told : List B) (i : ℕ) (t : B) → slice_get told i ≡ Some t → Has P (g t) → Has P (flat_map g told)
  has-flat P [] i t got has = absurd (cc)
  has-flat P (u ∷ told) zero t got has = has-left P (g u) (flat_map g told) (subst (λ v. Has P (g v)) (sym (some-same u t got)) has)
  has-flat P (u ∷ told) (suc i) t got has = has-right P (g u) (flat_map g told) (has-flat P told i t got has)
