-- What an object keeps of the state of a slot, and what its calls make of that and of other lists.
use Rattle.std.specs.Prelude.{◌≡◌, ℕ, ◌+◌, ◌*◌, ◌/◌, ◌<◌, ◌≤◌, Bool, true, false, eqb, ◌&&◌, min}
use Rattle.std.specs.Prelude.{List, Option, Some, None, bit_or, slice_get, slice_set, slice_index}
use Rattle.slot_history.specs.declared.shape.TheConstants.{PARTS, MOST_SLOTS, MOST_WORKERS}
use Rattle.slot_history.specs.declared.place.Place.{Place}
use Rattle.slot_history.specs.declared.place.Place.TheVariants.{Announcing}
use Rattle.slot_history.specs.States as state
use Rattle.slot_history.specs.Allowed.{bit_of}
use Rattle.slot_station.specs.declared.reply.Look.{Look}
use Rattle.slot_station.specs.declared.reply.Look.TheVariants as look
use Rattle.plain_slots.specs.declared.slot.Work.{Work}
use Rattle.plain_slots.specs.declared.slot.Slot.{Slot}
use Rattle.plain_slots.specs.declared.slot.Slot.TheVariants.{Empty, Reserved, Open, Shut, Finishing}

-- of a cursor that may be past the total: what is left to claim begins at the lesser of the two
abbrev pub work_of : state.TaskSet → Work
work_of task = record {
  id = task.id;
  total = task.total;
  next = min task.total task.cursor;
}

-- what is kept of a slot in this state
abbrev pub shown : state.SlotState → Slot
shown state.Empty = Empty
shown (state.Reserved w held) = Reserved
shown (state.Open task) = Open (work_of task)
shown (state.Shut task end) = Shut (work_of task) end.swept
shown (state.Finishing id w held) = Finishing id

-- it holds of every state of which this is kept
abbrev pub OfEach : Slot → (state.SlotState → Type 0) → Type 0
OfEach slot P = (x : state.SlotState) → shown x ≡ slot → P x

-- the slot has a task set that may be claimed from
abbrev pub has_work : Slot → Bool
has_work (Open work) = true
has_work (Shut work swept) = true
has_work _ = false

abbrev pub swept_slot : Slot → Slot
swept_slot (Shut work swept) = Shut work true
swept_slot slot = slot

abbrev pub look_of : Slot → Look
look_of Empty = look.Vacant
look_of Reserved = look.Vacant
look_of (Open work) = look.Open work.id
look_of (Shut work swept) = look.Invalid
look_of (Finishing id) = look.Invalid

-- what a claim of n tuples answers of the task set of a slot
abbrev pub ClaimFrom : state.SlotState → ℕ → Option (ℕ × ℕ) → Type 0
ClaimFrom x n None = (state.task_of x).total ≤ (state.task_of x).cursor
ClaimFrom x n (Some r) = let task = state.task_of x in
    (r.0 ≡ task.cursor) × (r.0 < task.total) × (r.1 ≡ min task.total (r.0 + n))

-- a payment is the last where so many other workers have to pay, if the slot was swept
abbrev pub pays_last : ℕ → state.SlotState → Bool
pays_last debts x = state.is_swept x && eqb debts 0

-- it holds of the place of a worker, where the list has one
abbrev pub OfPlace : List Place → ℕ → (Place → Type 0) → Type 0
OfPlace places w P = (p : Place) → slice_get places w ≡ Some p → P p

-- ---- notices

-- where the mask word of a slot is among those of all workers
abbrev pub word_index : ℕ → ℕ → ℕ
word_index w s = w * PARTS + s / 64

-- the mask words with a notice of the slot s for the worker w
abbrev pub with_notice : List ℕ → ℕ → ℕ → List ℕ
with_notice words w s =
    let i = word_index w s in
    slice_set words i (bit_or (slice_index words i) (bit_of s))

-- The mask words of one kind after an announcer at this place told one more worker; `again` is the
-- kind.
abbrev pub words_told : Bool → Place → List ℕ → List ℕ
words_told true (Announcing s true told) words = with_notice words told s
words_told false (Announcing s false told) words = with_notice words told s
words_told again p words = words

-- the place is an announcer's, and so many words have that of the worker that it tells
abbrev pub CanTell : Place → ℕ → Type 0
CanTell p count = (s told : ℕ) × (again : Bool) × (p ≡ Announcing s again told)
    × (s < MOST_SLOTS) × (told < MOST_WORKERS) × (word_index told s < count)
