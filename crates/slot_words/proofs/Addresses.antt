-- Words by their names.
use Rattle.std.proofs.Common.{◌≡◌, ◌≢◌, ℕ, ◌<◌, List, length, set, get_or, refl, sym, ap, ap₂, ◌∙◌}
use Rattle.std.proofs.Common.{subst, arith, get_or-set_same, get_or-set_other, length-set}
use mathlib.Core.Logic.{dite}
use native.Mathlib.Decide.{ℕ_discrete}
use Rattle.slot_history.specs.declared.shape.Shape.{Shape}
use Rattle.slot_history.specs.States.{ObjectState}
use Rattle.slot_words.specs.declared.address.Address.{Address}
use Rattle.slot_words.specs.declared.address.Address.TheVariants.{Meeting, ArrivalsAt, FinishedAt}
use Rattle.slot_words.specs.declared.address.Address.TheVariants.{StateOf, CursorOf, CounterOf}
use Rattle.slot_words.specs.declared.address.Address.TheVariants.{WorkerOf, ReturnOf, ChangeOf}
use Rattle.slot_words.specs.Addresses.{IsThere, index, count_of_words}
use Rattle.slot_words.specs.Words.{Holds, StandsFor}

pub index-low : (d : Shape) (a : Address) → IsThere d a → index d a < count_of_words d
index-low d (ReturnOf w part) x = omega arith
index-low d (ChangeOf w part) x = omega arith
index-low d _ x = omega arith

-- two addresses have two words
pub index-one : (d : Shape) (a b : Address) → IsThere d a → IsThere d b → index d a ≡ index d b → a ≡ b
index-one d Meeting Meeting x y e = refl
index-one d Meeting _ x y e = absurd (omega arith)
index-one d ArrivalsAt ArrivalsAt x y e = refl
index-one d ArrivalsAt _ x y e = absurd (omega arith)
index-one d FinishedAt FinishedAt x y e = refl
index-one d FinishedAt _ x y e = absurd (omega arith)
index-one d (StateOf s) (StateOf t) x y e = ap StateOf (omega arith)
index-one d (StateOf s) _ x y e = absurd (omega arith)
index-one d (CursorOf s) (CursorOf t) x y e = ap CursorOf (omega arith)
index-one d (CursorOf s) _ x y e = absurd (omega arith)
index-one d (CounterOf s) (CounterOf t) x y e = ap CounterOf (omega arith)
index-one d (CounterOf s) _ x y e = absurd (omega arith)
index-one d (WorkerOf w) (WorkerOf v) x y e = ap WorkerOf (omega arith)
index-one d (WorkerOf w) _ x y e = absurd (omega arith)
index-one d (ReturnOf w p) (ReturnOf v q) x y e = ap₂ ReturnOf (omega arith) (omega arith)
index-one d (ReturnOf w p) _ x y e = absurd (omega arith)
index-one d (ChangeOf w p) (ChangeOf v q) x y e = ap₂ ChangeOf (omega arith) (omega arith)
index-one d (ChangeOf w p) _ x y e = absurd (omega arith)

-- one word changes, and the words stand for another state
pub stands-set : (d : Shape) (words : List ℕ) (S S' : ObjectState) (a : Address) (n : ℕ) → StandsFor d words S → IsThere d a → Holds d S' a n
    → ((b : Address) → IsThere d b → b ≢ a → (m : ℕ) → Holds d S b m → Holds d S' b m) → StandsFor d (set words (index d a) n) S'
stands-set d words S S' a n s in_a here other =
    let i : ℕ = index d a in
    let low : i < length words = let l = index-low d a in_a in let c = s.count in omega arith in
    let new : Holds d S' a (get_or (set words i n) i 0) = subst (Holds d S' a) (sym (get_or-set_same words i n 0 low)) here in record {
      count = length-set words i n ∙ s.count;
      each = λ b in_b. dite (ℕ_discrete (index d b) i)
          (λ same. subst (λ c. Holds d S' c (get_or (set words i n) (index d c) 0)) (sym (index-one d b a in_b in_a same)) new)
          (λ ne. subst (Holds d S' b) (sym (get_or-set_other words i (index d b) n 0 ne))
          (other b in_b (λ e. ne (ap (index d) e)) (get_or words (index d b) 0) (s.each b in_b)));
    }
