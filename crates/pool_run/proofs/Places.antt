-- Items of lists by their places.
use Rattle.std.proofs.Common.{◌≡◌, ℕ, ◌+◌, ◌<◌, List, [], ◌∷◌, ◌++◌, length, map, slice_get, Some, refl, sym, ap, ◌∙◌, subst, arith, inl, inr}
use native.Mathlib.Decide.{ℕ_discrete}
use Rattle.std.specs.Option.{option_map}
use Rattle.std.proofs.lemmas.List.{length-append, length-map, get_or_append_left}
use Rattle.std.proofs.lemmas.Option.{slice_get_cases, slice_get-get_or, slice_get-map, slice_get_within}
use Rattle.board_rule.proofs.Joins.{get-mid}
use Rattle.pool_run.proofs.Teams.{some-same}

pub item-at : {A : Type 0} (xs : List A) (n k : ℕ) → length xs ≡ n → k < n → (x : A) × (slice_get xs k ≡ Some x)
item-at xs n k count low = elim (slice_get_cases xs k).1 [ inl p ↦ (p.0, p.2) | inr p ↦ absurd (omega arith) ]

-- what stands in a list of values stands there for an item of the list that gave them
pub mapped-at : {A B : Type 0} (f : A → B) (xs : List A) (k : ℕ) (y : B) → slice_get (map f xs) k ≡ Some y
    → (x : A) × (slice_get xs k ≡ Some x) × (f x ≡ y)
mapped-at f xs k y here =
    let low : k < length xs = subst (λ n. k < n) (length-map xs f) (slice_get_within (map f xs) k y here) in
    let x = item-at xs (length xs) k refl low in
    (x.0, x.1, some-same (f x.0) y (sym (slice_get-map f xs k ∙ ap (option_map f) x.1) ∙ here))

-- ---- one item more at the end

module _ {A : Type 0} where
  pub before : (xs : List A) (x : A) (k : ℕ) → k < length xs → slice_get (xs ++ x ∷ []) k ≡ slice_get xs k
  before xs x k low =
      let more : k < length (xs ++ x ∷ []) = (let long : length (xs ++ x ∷ []) ≡ length xs + 1 = length-append xs (x ∷ []) in omega arith) in
      slice_get-get_or (xs ++ x ∷ []) k x more ∙ ap Some (get_or_append_left xs (x ∷ []) x k low) ∙ sym (slice_get-get_or xs k x low)

  pub each-more : (P : ℕ → A → Type 0) (xs : List A) (x : A) → ((w : ℕ) (y : A) → slice_get xs w ≡ Some y → P w y) → P (length xs) x
      → (w : ℕ) (y : A) → slice_get (xs ++ x ∷ []) w ≡ Some y → P w y
  each-more P xs x was new w y here = at (ℕ_discrete w (length xs)) where
    at : Dec (w ≡ length xs) → P w y
    at (yes e) =
        let same : x ≡ y = some-same x y (sym (get-mid xs x []) ∙ ap (slice_get (xs ++ x ∷ [])) (sym e) ∙ here) in
        subst (λ k. P k y) (sym e) (subst (P (length xs)) same new)
    at (no ne) =
        let low : w < length (xs ++ x ∷ []) = slice_get_within (xs ++ x ∷ []) w y here in
        let long : length (xs ++ x ∷ []) ≡ length xs + 1 = length-append xs (x ∷ []) in
        let less : w < length xs = omega arith in
        was w y (sym (before xs x w less) ∙ here)

  -- what stands before it, and what stands there
  pub each-less : (xs : List A) (x : A) (w : ℕ) (y : A) → slice_get xs w ≡ Some y → slice_get (xs ++ x ∷ []) w ≡ Some y
  each-less xs x w y here = before xs x w (slice_get_within xs w y here) ∙ here

  pub the-last : (xs : List A) (x : A) → slice_get (xs ++ x ∷ []) (length xs) ≡ Some x
  the-last xs x = get-mid xs x []

module _ {A B : Type 0} where
  pub both-more : (P : ℕ → A → B → Type 0) (xs : List A) (ys : List B) (x : A) (y : B) → length ys ≡ length xs
      → ((w : ℕ) (u : A) (v : B) → slice_get xs w ≡ Some u → slice_get ys w ≡ Some v → P w u v) → P (length xs) x y
      → (w : ℕ) (u : A) (v : B) → slice_get (xs ++ x ∷ []) w ≡ Some u → slice_get (ys ++ y ∷ []) w ≡ Some v → P w u v
  both-more P xs ys x y same was new w u v here there =
      each-more (λ w u. (v : B) → slice_get (ys ++ y ∷ []) w ≡ Some v → P w u v) xs x old last w u here v there where
        old : (w : ℕ) (u : A) → slice_get xs w ≡ Some u → (v : B) → slice_get (ys ++ y ∷ []) w ≡ Some v → P w u v
        old w u here v there =
            let low : w < length xs = slice_get_within xs w u here in
            let less : w < length ys = omega arith in
            was w u v here (sym (before ys y w less) ∙ there)

        last : (v : B) → slice_get (ys ++ y ∷ []) (length xs) ≡ Some v → P (length xs) x v
        last v there =
            let at : slice_get (ys ++ y ∷ []) (length ys) ≡ Some v = ap (slice_get (ys ++ y ∷ [])) same ∙ there in
            subst (P (length xs) x) (some-same y v (sym (get-mid ys y []) ∙ at)) new
