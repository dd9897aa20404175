-- Lists whose elements are the values of a function, with one of them set.
use Rattle.std.proofs.Common.{◌≡◌, ◌≢◌, ℕ, zero, suc, ◌+◌, ◌*◌, ◌<◌, List, [], ◌∷◌, length}
use Rattle.std.proofs.Common.{replicate, set, slice_get, Some, refl, sym, ap, ◌∙◌, subst, arith}
use Rattle.std.proofs.Common.{mul_comm, length-set, get_or-set_same}
use Rattle.std.proofs.lemmas.List.{get_or-replicate, length-replicate}
use Rattle.std.proofs.lemmas.Nat.{mul-add-lt}
use Rattle.std.proofs.lemmas.Option.{slice_get-get_or}
use native.Mathlib.Decide.{ℕ_discrete}
use Rattle.slot_history.specs.Sets.{upd}
use Rattle.slot_history.proofs.Sets.{upd-same, upd-else}

module _ {A : Type 0} where
  pub get-replicate : (n k : ℕ) (x : A) → k < n → slice_get (replicate n x) k ≡ Some x
  get-replicate n k x h =
      let l : length (replicate n x) ≡ n = length-replicate n x in slice_get-get_or (replicate n x) k x (omega arith)
      ∙ ap Some (get_or-replicate n k x x h)

  pub get-set_same : (l : List A) (i : ℕ) (x : A) → i < length l → slice_get (set l i x) i ≡ Some x
  get-set_same l i x h = slice_get-get_or (set l i x) i x (rw (length-set l i x) h) ∙ ap Some (get_or-set_same l i x x h)

  pub get-set_other : (l : List A) (i j : ℕ) (x : A) → j ≢ i → slice_get (set l i x) j ≡ slice_get l j
  get-set_other [] i j x n = refl
  get-set_other (y ∷ ys) zero zero x n = absurd (n refl)
  get-set_other (y ∷ ys) zero (suc j) x n = refl
  get-set_other (y ∷ ys) (suc i) zero x n = refl
  get-set_other (y ∷ ys) (suc i) (suc j) x n = get-set_other ys i j x (λ e. n (ap suc e))

-- the elements of a list are those of a function
abbrev pub Lists : {A X : Type 0} → (X → A) → ℕ → List A → (ℕ → X) → Type 0
Lists show n l f = (k : ℕ) → k < n → slice_get l k ≡ Some (show (f k))

lists-set-at : {A X : Type 0} (show : X → A) (n : ℕ) (l : List A) (f : ℕ → X) (i : ℕ) (x : X) → length l ≡ n → i < n → Lists show n l f
    → (k : ℕ) → k < n → Dec (k ≡ i) → slice_get (set l i (show x)) k ≡ Some (show (upd f i x k))
lists-set-at show n l f i x count low is k in_n (yes e) =
    subst (λ j. slice_get (set l i (show x)) j ≡ Some (show (upd f i x j))) (sym e)
    (get-set_same l i (show x) (omega arith) ∙ ap (λ y. Some (show y)) (sym (upd-same f i x)))
lists-set-at show n l f i x count low is k in_n (no ne) =
    get-set_other l i k (show x) ne ∙ is k in_n ∙ ap (λ y. Some (show y)) (sym (upd-else f i x k ne))

pub lists-set : {A X : Type 0} (show : X → A) (n : ℕ) (l : List A) (f : ℕ → X) (i : ℕ) (x : X) → length l ≡ n → i < n → Lists show n l f
    → Lists show n (set l i (show x)) (upd f i x)
lists-set show n l f i x count low is k in_n = lists-set-at show n l f i x count low is k in_n (ℕ_discrete k i)

lists-kept-at : {A X : Type 0} (show : X → A) (n : ℕ) (l : List A) (f : ℕ → X) (i : ℕ) (x : X) → show x ≡ show (f i) → Lists show n l f
    → (k : ℕ) → k < n → Dec (k ≡ i) → slice_get l k ≡ Some (show (upd f i x k))
lists-kept-at show n l f i x same is k in_n (yes e) = is k in_n ∙ ap (λ j. Some (show (f j))) e ∙ ap Some (sym same) ∙ ap (λ y. Some (show y))
    (sym (upd-same f i x) ∙ ap (upd f i x) (sym e))
lists-kept-at show n l f i x same is k in_n (no ne) = is k in_n ∙ ap (λ y. Some (show y)) (sym (upd-else f i x k ne))

-- a change that does not show
pub lists-kept : {A X : Type 0} (show : X → A) (n : ℕ) (l : List A) (f : ℕ → X) (i : ℕ) (x : X) → show x ≡ show (f i) → Lists show n l f
    → Lists show n l (upd f i x)
lists-kept show n l f i x same is k in_n = lists-kept-at show n l f i x same is k in_n (ℕ_discrete k i)

-- of pairs, at s * n + v, each is within all of them
pub pair-within : (m n s v : ℕ) → s < m → v < n → s * n + v < m * n
pair-within m n s v hs hv = subst (λ k. s * n + v < k) (mul_comm n m) (mul-add-lt s n v m hs hv)
