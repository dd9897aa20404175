-- The word that a call is on: the call reads its answer there, and what it leaves there is right.
use Rattle.std.proofs.Common.{◌≡◌, ◌≢◌, ℕ, sym, ap, ◌∙◌}
use Rattle.slot_history.specs.declared.shape.Shape.{Shape}
use Rattle.slot_history.specs.declared.act.Act.{Act}
use Rattle.slot_history.specs.declared.place.Place.{Place}
use Rattle.slot_history.specs.Sets.{upd}
use Rattle.slot_history.specs.States.{SlotState, ObjectState, slot_of, slot_word}
use Rattle.slot_history.specs.Steps.{next_at}
use Rattle.slot_history.specs.Calls.{call_of}
use Rattle.slot_history.proofs.Sets.{upd-same, upd-else}
use Rattle.slot_words.specs.Words.{counter_of, worker_word, Holds}
use Rattle.slot_words.specs.Steps.{address_of, change_of, answer_of}

-- of a call of w, at the place p of this state, with its answer
abbrev pub Reads : Shape → ObjectState → ℕ → Act → Place → Type 0
Reads d S w a p = let k = call_of a in (n : ℕ) → Holds d S (address_of w k p) n
    → (answer_of k p n ≡ a) × Holds d (next_at d S w a p) (address_of w k p) (change_of k p n)

module _ (d : Shape) (S : ObjectState) (w : ℕ) where
  -- of a slot that becomes x
  pub state-after : (s n : ℕ) (x : SlotState) → n ≡ slot_word x → n ≡ slot_word (upd S.slots s x s)
  state-after s n x h = h ∙ sym (ap slot_word (upd-same S.slots s x))

  pub counter-after : (s n : ℕ) (x : SlotState) → n ≡ counter_of d x → n ≡ counter_of d (upd S.slots s x s)
  counter-after s n x h = h ∙ sym (ap (counter_of d) (upd-same S.slots s x))

  -- of the worker that calls, whose place becomes p
  pub own-after : (f : ℕ → SlotState) (p : Place) → worker_word (f (slot_of (upd S.places w p w))) w (upd S.places w p w) ≡ worker_word (f (slot_of p)) w p
  own-after f p = ap (λ r. worker_word (f (slot_of r)) w r) (upd-same S.places w p)

  -- of another worker
  pub other-after : (f : ℕ → SlotState) (p : Place) (v : ℕ) → v ≢ w
      → worker_word (f (slot_of (upd S.places w p v))) v (upd S.places w p v) ≡ worker_word (f (slot_of (S.places v))) v (S.places v)
  other-after f p v other = ap (λ r. worker_word (f (slot_of r)) v r) (upd-else S.places w p v other)
