-- The ranges of the numbers in a state.
use Rattle.std.specs.Prelude.{◌≡◌, ℕ, ◌+◌, ◌-◌, ◌*◌, ◌/◌, ◌%◌, ◌<◌, ◌≤◌, Bool, true, false, cond}
use Rattle.std.specs.Prelude.{not, eqb, Some, is_some, unwrap_or}
use Rattle.slot_history.specs.declared.shape.Shape.{Shape}
use Rattle.slot_history.specs.declared.shape.TheConstants.{MOST_SLOTS, MOST_WORKERS, MOST_QUERIES}
use Rattle.slot_history.specs.declared.shape.TheConstants.{MOST_CLAIM, MOST_TOTAL, STAGES}
use Rattle.slot_history.specs.Sets.{count_of, sum_below}
use Rattle.slot_history.specs.declared.place.Held.{Held}
use Rattle.slot_history.specs.declared.place.Place.{Place}
use Rattle.slot_history.specs.declared.place.Place.TheVariants.{Free, Inside, Used, Announcing}
use Rattle.slot_history.specs.States.{TaskSet, Ending, SlotState, Empty, Reserved, Open, Shut}
use Rattle.slot_history.specs.States.{Finishing, ObjectState, slot_of, task_of, is_empty, is_shut}
use Rattle.slot_history.specs.Allowed.{debts}

-- the numbers of an object are within their limits
pub record IsShape (d : Shape) : Type 0 where
  pub slots : (0 < d.slots) × (d.slots ≤ MOST_SLOTS)
  pub workers : (0 < d.workers) × (d.workers ≤ MOST_WORKERS)
  pub queries : d.queries ≤ MOST_QUERIES

-- a place names a slot of the shape, and an announcer still has to tell a worker of the shape
abbrev pub IsPlaceWithin : Shape → Place → Type 0
IsPlaceWithin d Free = Unit {0}
IsPlaceWithin d (Announcing s again told) = (s < d.slots) × (told < d.workers)
IsPlaceWithin d p = slot_of p < d.slots

-- only the slots and workers of the shape take part, also in notices, and at most its queries are
-- admitted
pub record IsWithin (d : Shape) (S : ObjectState) : Type 0 where
  pub places : (v : ℕ) → IsPlaceWithin d (S.places v)
  pub others : (v : ℕ) → d.workers ≤ v → S.places v ≡ Free
  pub slots : (s : ℕ) → d.slots ≤ s → is_empty (S.slots s) ≡ true
  pub admitted : S.admitted ≤ d.queries
  pub changes : (v s : ℕ) → S.changes v s ≡ true → s < d.slots
  pub returns : (v s : ℕ) → S.returns v s ≡ true → s < d.slots

-- the worker found all tuples of the slot's task set claimed, and has not shut it yet
abbrev pub is_used_at : ℕ → Place → Bool
is_used_at s (Used at id) = eqb at s
is_used_at s _ = false

-- the worker may still claim at the slot
abbrev pub is_claiming_at : ℕ → Place → Bool
is_claiming_at s (Inside at id) = eqb at s
is_claiming_at s _ = false

-- How far a cursor can be past its total: by one claim, and one more for each worker that found all
-- tuples claimed. While the slot is open these are still there; once it is shut they are among
-- those that claim no more.
abbrev pub IsCursorBound : Shape → (ℕ → Place) → ℕ → SlotState → Type 0
IsCursorBound d places s (Open t) =
    t.cursor < t.total + MOST_CLAIM * (1 + count_of d.workers (λ v. is_used_at s (places v)))
IsCursorBound d places s (Shut t end) =
    t.cursor < t.total
    + MOST_CLAIM * (1 + count_of d.workers (λ v. not (is_claiming_at s (places v))))
IsCursorBound d places s x = Unit {0}

-- a worker that found all tuples claimed is right, a task set is shut only then, and no cursor goes
-- too far
pub record AreCursors (d : Shape) (S : ObjectState) : Type 0 where
  pub used : (v s id : ℕ) → v < d.workers → S.places v ≡ Used s id
      → (task_of (S.slots s)).total ≤ (task_of (S.slots s)).cursor
  pub shut : (s : ℕ) → is_shut (S.slots s) ≡ true
      → (task_of (S.slots s)).total ≤ (task_of (S.slots s)).cursor
  pub bound : (s : ℕ) → IsCursorBound d S.places s (S.slots s)

-- what the slot of a reservation notes of its holder
pub record IsReservation (held : Held) : Type 0 where
  pub again : held.again ≡ false
  pub stage : held.stage ≡ 0
  pub noted : held.noted ≤ STAGES
  pub total : unwrap_or held.total 0 ≤ MOST_TOTAL

-- what the slot of a finalisation of an id notes of its holder
pub record IsFinalisation (id : ℕ) (held : Held) : Type 0 where
  pub query : held.query ≡ Some (id / STAGES)
  pub stage : held.stage ≡ id % STAGES
  pub again : held.again ≡ true
  pub noted : held.noted ≤ STAGES
  pub total : unwrap_or held.total 0 ≤ MOST_TOTAL

abbrev pub IsSlotSound : SlotState → Type 0
IsSlotSound Empty = Unit {0}
IsSlotSound (Reserved w held) = IsReservation held
IsSlotSound (Open t) = t.total ≤ MOST_TOTAL
IsSlotSound (Shut t end) = t.total ≤ MOST_TOTAL
IsSlotSound (Finishing id w held) = IsFinalisation id held

-- totals are within their limit, and holders know the query and the stage of their slot
abbrev pub AreSlotsSound : Shape → ObjectState → Type 0
AreSlotsSound d S = (s : ℕ) → IsSlotSound (S.slots s)

-- how many task sets may still be noted as done because of the slot as it is: by a reservation with
-- a query once, and then at each of its stages, each time at most one for each stage
abbrev pub note_room : SlotState → ℕ
note_room Empty = 0
note_room (Reserved w held) = cond (is_some held.query) (STAGES * (STAGES + 1) - held.noted) 0
note_room (Open t) = STAGES * (STAGES - t.id % STAGES)
note_room (Shut t end) = STAGES * (STAGES - t.id % STAGES)
note_room (Finishing id w held) = STAGES * (STAGES - id % STAGES) - held.noted

-- the number of task sets noted as done, with all that may still be noted, is bounded by the
-- admitted queries
abbrev pub IsFinishedBound : Shape → ObjectState → Type 0
IsFinishedBound d S =
    S.finished + sum_below d.slots (λ s. note_room (S.slots s)) ≤ STAGES * (STAGES + 1) * S.admitted

-- the cursor of a slot is at most one claim for each worker and one more past its total
abbrev pub IsCursorLimit : Shape → ObjectState → Type 0
IsCursorLimit d S = (s : ℕ)
    → (task_of (S.slots s)).cursor ≤ (task_of (S.slots s)).total + MOST_CLAIM * (d.workers + 1)

-- at a shut slot those that paid and those that still owe are together the marked workers, which
-- are fewer than the workers
abbrev pub AreDebtsWithin : Shape → ObjectState → Type 0
AreDebtsWithin d S = (s : ℕ) (t : TaskSet) (end : Ending) → S.slots s ≡ Shut t end
    → (count_of d.workers end.paid + debts d (Shut t end) ≡ count_of d.workers end.marked)
    × (count_of d.workers end.marked < d.workers)
