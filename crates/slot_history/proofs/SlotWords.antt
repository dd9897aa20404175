-- What a call leaves of a slot's word and of the debts there, and what a word and a place say of the slot.
use Rattle.std.proofs.Common.{◌≡◌, ◌≢◌, ℕ, true, false, refl, ap, inl, inr, eqb-true, eq-eqb, arith}
use Rattle.slot_history.specs.declared.shape.Shape.{Shape}
use Rattle.slot_history.specs.declared.act.Act.{Act}
use Rattle.slot_history.specs.declared.act.Act.TheVariants.{PayDone}
use Rattle.slot_history.specs.declared.place.Held.{Held}
use Rattle.slot_history.specs.declared.place.Place.{Place}
use Rattle.slot_history.specs.declared.place.Place.TheVariants.{Entered, Astray, Inside, Used}
use Rattle.slot_history.specs.declared.place.Place.TheVariants.{Behind, Leading}
use Rattle.slot_history.specs.States.{SlotState, Empty, Shut, slot_of, slot_word, is_at, is_empty}
use Rattle.slot_history.specs.States.{owes, can_leave}
use Rattle.slot_history.specs.Steps.{left, claimed, ended, held_on, finalised_by}
use Rattle.slot_history.proofs.Duties.{IsHeldBy, owing-else}

-- ---- the word of a slot

pub word-claimed : (x : SlotState) (n : ℕ) → slot_word (claimed x n) ≡ slot_word x
word-claimed Empty n = refl
word-claimed _ n = refl

pub word-ended : (d : Shape) (w : ℕ) (a : Act) (x : SlotState) → slot_word (ended d w a x) ≡ slot_word x
word-ended d w a Empty = refl
word-ended d w a _ = refl

pub word-finalised : (w : ℕ) (x : SlotState) → slot_word (finalised_by w x) ≡ slot_word x
word-finalised w Empty = refl
word-finalised w _ = refl

pub word-held : (a : Act) (x : SlotState) → slot_word (held_on a x) ≡ slot_word x
word-held a Empty = refl
word-held a _ = refl

-- the word is 0 of an empty slot alone
pub word-empty : (x : SlotState) → is_empty x ≡ true → slot_word x ≡ 0
word-empty Empty h = refl
word-empty _ h = absurd (cc)

pub word-full : (x : SlotState) → is_empty x ≡ false → slot_word x ≢ 0
word-full Empty h = absurd (cc)
word-full _ h = λ z. absurd (omega arith)

-- ---- debts

-- nobody owes at a slot that is held or empty
pub owes-not-held : (w : ℕ) (h : Held) (x : SlotState) (v : ℕ) → IsHeldBy w h x → owes x v ≡ false
owes-not-held w h x v (inl is) = ap (λ y. owes y v) is
owes-not-held w h x v (inr (id, is)) = ap (λ y. owes y v) is

pub owes-not-empty : (x : SlotState) (v : ℕ) → is_empty x ≡ true → owes x v ≡ false
owes-not-empty Empty v h = refl
owes-not-empty _ v h = absurd (cc)

-- a payment leaves the debts of others
pub owes-paid-else : (d : Shape) (w : ℕ) (x : SlotState) (v : ℕ) → v ≢ w → owes (ended d w PayDone x) v ≡ owes x v
owes-paid-else d w (Shut t e) v other = owing-else d e v w other
owes-paid-else d w _ v other = refl

-- ---- a worker at a slot

pub is-at-slot : (p : Place) (s : ℕ) → is_at p s ≡ true → slot_of p ≡ s
is-at-slot (Entered t) s h = eqb-true t s h
is-at-slot (Astray t) s h = eqb-true t s h
is-at-slot (Inside t id) s h = eqb-true t s h
is-at-slot (Used t id) s h = eqb-true t s h
is-at-slot (Behind t id) s h = eqb-true t s h
is-at-slot (Leading t id) s h = eqb-true t s h
is-at-slot _ s h = absurd (cc)

-- whoever may leave is at the slot that its place names, and afterwards at none
pub leaves-at : (p : Place) → can_leave p ≡ true → is_at p (slot_of p) ≡ true
leaves-at (Astray t) h = eq-eqb t t refl
leaves-at (Inside t id) h = eq-eqb t t refl
leaves-at (Behind t id) h = eq-eqb t t refl
leaves-at (Leading t id) h = eq-eqb t t refl
leaves-at _ h = absurd (cc)

pub left-away : (p : Place) (s : ℕ) → is_at (left p) s ≡ false
left-away (Leading t id) s = refl
left-away _ s = refl
