-- A list with one more element.
use Rattle.std.proofs.Common.{◌≡◌, ℕ, ◌+◌, ◌<◌, List, [], ◌∷◌, ◌++◌, length, slice_get, Some, refl, sym, ap, ◌∙◌, subst, arith, length-append, get_or}
use Rattle.std.proofs.Math.Seq.{get_or-append_seam}
use Rattle.std.proofs.lemmas.Option.{slice_get_read, slice_get_within, get_or_from_slice_get}
use Rattle.std.proofs.lemmas.List.{get_or_append_left}
use native.Mathlib.Decide.{ℕ_discrete}

-- what holds of each element, by its place, and of the new one
pub more-each : {A : Type 0} (P : ℕ → A → Type 0) (bs : List A) (b : A) (v : ℕ) → length bs ≡ v → ((u : ℕ) (c : A) → slice_get bs u ≡ Some c → P u c) → P v b
    → (u : ℕ) (c : A) → slice_get (bs ++ b ∷ []) u ≡ Some c → P u c
more-each {A} P bs b v len all this u c got = at (ℕ_discrete u v) where
  within : u < length (bs ++ b ∷ [])
  within = slice_get_within (bs ++ b ∷ []) u c got

  total : length (bs ++ b ∷ []) ≡ length bs + 1
  total = length-append bs (b ∷ [])

  at : Dec (u ≡ v) → P u c
  at (yes e) =
      let f : get_or (bs ++ b ∷ []) (length bs) c ≡ b = get_or-append_seam bs b [] c in
      let g : get_or (bs ++ b ∷ []) u c ≡ c = get_or_from_slice_get (bs ++ b ∷ []) u c c got in
      let i : u ≡ length bs = e ∙ sym len in
      let k : b ≡ c = sym f ∙ ap (λ j. get_or (bs ++ b ∷ []) j c) (sym i) ∙ g in
      subst (P u) k (subst (λ j. P j b) (sym e) this)
  at (no n) =
      let lt : u < length bs = omega (arith, within, total, len, n) in
      all u c (slice_get_read bs (length bs) u c refl lt (sym (get_or_from_slice_get (bs ++ b ∷ []) u c c got) ∙ get_or_append_left bs (b ∷ []) c u lt))
