-- The state of a slot and of the whole object.
use Rattle.std.specs.Prelude.{◌≡◌, ◌⊎◌, ℕ, ◌+◌, ◌*◌, ◌/◌, ◌%◌, eqb, Bool, true, false, cond, not}
use Rattle.std.specs.Prelude.{◌&&◌, Option, Some, None, unwrap_or}
use Rattle.slot_history.specs.declared.shape.TheConstants.{STAGES}
use Rattle.slot_history.specs.declared.place.Held.{Held}
use Rattle.slot_history.specs.declared.place.Place.{Place}
use Rattle.slot_history.specs.declared.place.Place.TheVariants.{Free, Entered, Astray, Inside, Used}
use Rattle.slot_history.specs.declared.place.Place.TheVariants.{Behind, Leading, Asking, Owing}
use Rattle.slot_history.specs.declared.place.Place.TheVariants.{Holding, Announcing}

-- a task set in a slot: its id, its total, and how many tuples were asked for so far
pub record TaskSet : Type 0 where
  pub id : ℕ
  pub total : ℕ
  pub cursor : ℕ

-- the end of a task set that is shut: who shut it, the sets of workers that were asked, that were
-- marked and that paid, and whether the coordinator has swept
pub record Ending : Type 0 where
  pub coordinator : ℕ
  pub asked : ℕ → Bool
  pub marked : ℕ → Bool
  pub paid : ℕ → Bool
  pub swept : Bool

-- the state of a slot
pub data SlotState : Type 0 where
  Empty : SlotState
  -- by whom, and what it noted and set in this holding
  Reserved : ℕ → Held → SlotState
  Open : TaskSet → SlotState
  Shut : TaskSet → Ending → SlotState
  -- the id that is finalised, by whom, and what it noted and set in this holding
  Finishing : ℕ → ℕ → Held → SlotState

-- what a worker knows of a slot: whether there may be work on its task set, and its query, if that
-- is known
pub record NoticeRecord : Type 0 where
  pub active : Bool
  pub group : Option ℕ

-- The object: its slots and the places of its workers. By worker and slot, the pending change
-- notices, the pending return notices and the notice records. The numbers of admitted queries and
-- of task sets noted as done.
pub record ObjectState : Type 0 where
  pub slots : ℕ → SlotState
  pub places : ℕ → Place
  pub changes : ℕ → ℕ → Bool
  pub returns : ℕ → ℕ → Bool
  pub records : ℕ → ℕ → NoticeRecord
  pub admitted : ℕ
  pub finished : ℕ

-- all slots are empty, all workers are free, and nothing is known
abbrev pub opening : ObjectState
opening = record {
  slots = λ s. Empty;
  places = λ w. Free;
  changes = λ w s. false;
  returns = λ w s. false;
  records = λ w s. record { active = false; group = None };
  admitted = 0;
  finished = 0;
}

-- the slot that a place names, else 0
abbrev pub slot_of : Place → ℕ
slot_of Free = 0
slot_of (Entered s) = s
slot_of (Astray s) = s
slot_of (Inside s id) = s
slot_of (Used s id) = s
slot_of (Behind s id) = s
slot_of (Leading s id) = s
slot_of (Asking s id asked marked) = s
slot_of (Owing s id) = s
slot_of (Holding s held) = s
slot_of (Announcing s again told) = s

-- the id that a place names, else 0
abbrev pub id_at : Place → ℕ
id_at (Asking s id asked marked) = id
id_at (Owing s id) = id
id_at (Inside s id) = id
id_at (Used s id) = id
id_at (Behind s id) = id
id_at (Leading s id) = id
id_at _ = 0

-- what the holder of a slot has when it reserved the slot
abbrev pub reservation : Held
reservation = record { query = None; stage = 0; again = false; noted = 0; total = None }

-- what the holder of a slot has when it begins to finalise a task set
abbrev pub finalisation : ℕ → Held
finalisation id = record {
  query = Some (id / STAGES);
  stage = id % STAGES;
  again = true;
  noted = 0;
  total = None;
}

-- what a holder has in hand; at other places nothing
abbrev pub held_at : Place → Held
held_at (Holding s held) = held
held_at _ = reservation

-- the id of the next task set of a holding with a query: stage 0 after a reservation, and the next
-- stage after a finalisation
abbrev pub next_id : Held → ℕ
next_id held = STAGES * unwrap_or held.query 0 + cond held.again (held.stage + 1) 0

-- the id of the task set that a holder finalises
abbrev pub finalised_id : Held → ℕ
finalised_id held = STAGES * unwrap_or held.query 0 + held.stage

-- the task set of a slot that is open or shut
abbrev pub task_of : SlotState → TaskSet
task_of (Open t) = t
task_of (Shut t end) = t
task_of _ = record { id = 0; total = 0; cursor = 0 }

-- the id of the task set of a slot, which it has while it is open, shut or being finalised; else 0
abbrev pub id_of : SlotState → ℕ
id_of (Open t) = t.id
id_of (Shut t end) = t.id
id_of (Finishing id w held) = id
id_of _ = 0

-- the same as an option: none if the slot has no task set
abbrev pub task_at : SlotState → Option ℕ
task_at (Open t) = Some t.id
task_at (Shut t end) = Some t.id
task_at (Finishing id w held) = Some id
task_at _ = None

abbrev pub has_id : SlotState → Bool
has_id (Open t) = true
has_id (Shut t end) = true
has_id (Finishing id w held) = true
has_id _ = false

abbrev pub is_empty : SlotState → Bool
is_empty Empty = true
is_empty _ = false

-- a look finds no task set there
abbrev pub is_vacant : SlotState → Bool
is_vacant Empty = true
is_vacant (Reserved w held) = true
is_vacant _ = false

abbrev pub is_open : SlotState → Bool
is_open (Open t) = true
is_open _ = false

abbrev pub is_shut : SlotState → Bool
is_shut (Shut t end) = true
is_shut _ = false

-- a look finds that the task set may not be worked on any more
abbrev pub is_tagged : SlotState → Bool
is_tagged (Shut t end) = true
is_tagged (Finishing id w held) = true
is_tagged _ = false

abbrev pub is_swept : SlotState → Bool
is_swept (Shut t end) = end.swept
is_swept _ = false

-- a worker that was marked at a shut slot and has not paid
abbrev pub owes : SlotState → ℕ → Bool
owes (Shut t end) v = end.marked v && not (end.paid v)
owes _ v = false

-- the word of a slot: 0 if empty, 1 if reserved, (id + 1) * 4 + 2 if open, 1 more once it is shut
abbrev pub slot_word : SlotState → ℕ
slot_word Empty = 0
slot_word (Reserved w held) = 1
slot_word (Open t) = (t.id + 1) * 4 + 2
slot_word (Shut t end) = (t.id + 1) * 4 + 3
slot_word (Finishing id w held) = (id + 1) * 4 + 3

-- a worker is at a slot from its enter to its leave
abbrev pub is_at : Place → ℕ → Bool
is_at (Entered at) s = eqb at s
is_at (Astray at) s = eqb at s
is_at (Inside at id) s = eqb at s
is_at (Used at id) s = eqb at s
is_at (Behind at id) s = eqb at s
is_at (Leading at id) s = eqb at s
is_at _ s = false

-- the worker is inside at a slot, from the look that answered an id to the leave
abbrev pub has_cell : Place → Bool
has_cell (Inside s id) = true
has_cell (Used s id) = true
has_cell (Behind s id) = true
has_cell (Leading s id) = true
has_cell _ = false

-- it is inside with this id
abbrev pub is_inside : Place → ℕ → Bool
is_inside p id = has_cell p && eqb (id_at p) id

-- it is inside at this slot, and so has its own cell of it
abbrev pub has_own_cell : Place → ℕ → Bool
has_own_cell p s = has_cell p && eqb (slot_of p) s

-- the worker holds a slot, and so has all cells of it
abbrev pub holds : Place → ℕ → Bool
holds (Holding at held) s = eqb at s
holds _ s = false

-- the cell of worker v at slot s is with worker u, who alone may exchange it
abbrev pub HasCell : ObjectState → ℕ → ℕ → ℕ → Type 0
HasCell S s v u = ((u ≡ v) × (has_own_cell (S.places u) s ≡ true)) ⊎ (holds (S.places u) s ≡ true)

-- the places from which a worker may leave its slot
abbrev pub can_leave : Place → Bool
can_leave (Astray s) = true
can_leave (Inside s id) = true
can_leave (Behind s id) = true
can_leave (Leading s id) = true
can_leave _ = false
