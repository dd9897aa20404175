-- The word of a worker, by its place.
use Rattle.std.proofs.Common.{◌≡◌, ◌≢◌, ℕ, ◌+◌, ◌<◌, ◌≤◌, ◌⊎◌, true, false, cond, refl, sym, ap}
use Rattle.std.proofs.Common.{ap₂, ◌∙◌, inl, inr, ⊎_elim, arith}
use Rattle.std.proofs.lemmas.Bool.{cond_both}
use mathlib.Core.Bool.{true≢false}
use Rattle.slot_history.specs.declared.place.Place.{Place}
use Rattle.slot_history.specs.declared.place.Place.TheVariants.{Free}
use Rattle.slot_history.specs.States.{SlotState, slot_of, id_of, is_at, owes, can_leave}
use Rattle.slot_history.proofs.SlotWords.{is-at-slot}
use Rattle.slot_words.specs.Encodings.{at_word, mark_for}
use Rattle.slot_words.specs.Words.{mark_at, worker_word}

pub at-slot : (x : SlotState) (v : ℕ) (p : Place) (s : ℕ) → is_at p s ≡ true → worker_word x v p ≡ at_word s + mark_at x v
at-slot x v p s h = let e = is-at-slot p s h in ap₂ (λ b t. cond b (at_word t + mark_at x v) 0) (ap (is_at p) e ∙ h) e

pub nowhere : (x : SlotState) (v : ℕ) (p : Place) → is_at p (slot_of p) ≡ false → worker_word x v p ≡ 0
nowhere x v p h = ap (λ b. cond b (at_word (slot_of p) + mark_at x v) 0) h

mark-cases : (x : SlotState) (v : ℕ) → (mark_at x v ≡ 0) ⊎ (512 ≤ mark_at x v)
mark-cases x v = cond_both (owes x v) (mark_for (id_of x)) 0 (λ m. (m ≡ 0) ⊎ (512 ≤ m)) (λ h. inr (omega arith)) (λ h. inl refl)

-- a word that names a slot and no mark is of a worker that is there
pub unmarked-at : (x : SlotState) (v : ℕ) (p : Place) (s : ℕ) → s + 1 < 512 → worker_word x v p ≡ at_word s → is_at p s ≡ true
unmarked-at x v p s low is =
    cond_both (is_at p (slot_of p)) (at_word (slot_of p) + mark_at x v) 0 (λ m. m ≡ at_word s → is_at p s ≡ true)
    (λ here e. ⊎_elim (λ z. let k : slot_of p ≡ s = omega arith in ap (is_at p) (sym k) ∙ here) (λ z. absurd (omega arith)) (mark-cases x v))
    (λ away e. absurd (omega arith)) is

pub not-free : (p : Place) → can_leave p ≡ true → p ≢ Free
not-free p h e = true≢false (sym h ∙ ap can_leave e)
