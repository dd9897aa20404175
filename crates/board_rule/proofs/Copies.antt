-- A list of numbers that is copied number by number.
use Rattle.std.proofs.Common.{◌≡◌, ℕ, zero, suc, ◌+◌, ◌<◌, List, [], ◌∷◌, length, set}
use Rattle.std.proofs.Common.{get_or, get_or-set_same, get_or-set_other, length-set, refl, sym, ap, ap₂, ◌∙◌, arith}
use mathlib.Core.Logic.{dite}
use mathlib.Core.Option.{some, some-injective, some-ne-none}
use native.Mathlib.Decide.{ℕ_discrete}
use lib.ListN.{get_elem?}

item-read : (l : List ℕ) (i v : ℕ) → get_elem? l i ≡ some v → get_or l i 0 ≡ v
item-read [] i v e = absurd (some-ne-none v (sym e))
item-read (x ∷ xs) zero v e = some-injective x v e
item-read (x ∷ xs) (suc i) v e = item-read xs i v e

-- one more is copied
pub copied-more : (new from : List ℕ) (i n v : ℕ) → length new ≡ n → i < n → get_elem? from i ≡ some v
    → ((k : ℕ) → k < i → get_or new k 0 ≡ get_or from k 0)
    → (length (set new i v) ≡ n) × ((k : ℕ) → k < i + 1 → get_or (set new i v) k 0 ≡ get_or from k 0)
copied-more new from i n v long low is each =
    let in_list : i < length new = omega arith in (
      length-set new i v ∙ long,
      λ k lt. dite (ℕ_discrete k i)
          (λ e. ap (λ j. get_or (set new i v) j 0) e ∙ get_or-set_same new i v 0 in_list ∙ sym (item-read from i v is) ∙ ap (λ j. get_or from j 0) (sym e))
          (λ ne. get_or-set_other new i k v 0 ne ∙ each k (omega arith)),
    )

pub same-lists : (one other : List ℕ) → length one ≡ length other → ((k : ℕ) → k < length one → get_or one k 0 ≡ get_or other k 0) → one ≡ other
same-lists [] [] long each = refl
same-lists [] (y ∷ ys) long each = absurd (omega arith)
same-lists (x ∷ xs) [] long each = absurd (omega arith)
same-lists (x ∷ xs) (y ∷ ys) long each = ap₂ (λ a l. a ∷ l) (each 0 (omega arith)) (same-lists xs ys (omega arith) (λ k lt. each (suc k) (omega arith)))
