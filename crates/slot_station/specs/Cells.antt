-- What is known of cells: notes, what a note says, what a cell holds, and which call the notes
-- allow.
use Rattle.std.specs.Prelude.{◌≡◌, ℕ, ◌<◌, true, cond, eqb, List, [], ◌∷◌, Option, Some, None}
use Rattle.std.specs.Prelude.{IsSome, IsSomeAnd}
use Rattle.slot_history.specs.declared.shape.Shape.{Shape}
use Rattle.slot_history.specs.declared.act.Act.{Act}
use Rattle.slot_history.specs.declared.act.Act.TheVariants.{LookOpen, ClaimRange, PayLast}
use Rattle.slot_history.specs.declared.act.Act.TheVariants.{SweepLast, ReserveGot, Install}
use Rattle.slot_history.specs.declared.act.Entry.{Entry}
use Rattle.slot_history.specs.declared.place.Held.{Held}
use Rattle.slot_history.specs.declared.place.Place.{Place}
pub use Rattle.slot_history.specs.States.{has_cell}
use Rattle.slot_history.specs.States as state
use Rattle.slot_history.specs.States.{SlotState, held_at, next_id, finalised_id, has_own_cell}
use Rattle.slot_history.specs.Steps.{state_after}
use Rattle.slot_history.specs.Calls.{Call, Leaving, Installing, Releasing, call_of}
use Rattle.slot_history.specs.Histories.{entry, place_of, ranges_of}
use Rattle.slot_history.specs.Subject.{InstallsOf}
use Rattle.slot_station.specs.declared.note.Note.{Note}
use Rattle.slot_station.specs.declared.note.Note.TheVariants.{Empty, Kept, Fresh, Loose}

-- a kept value that is worked on may not fit any more
abbrev pub loosened : Note → Note
loosened Kept = Loose
loosened note = note

-- The note that the worker w has of the cell of v after its call, by its note before. A look that
-- answers Open keeps the own cell; a range makes the own cell's note loose; whoever finalises has
-- all cells kept, and whoever reserves has all cells empty.
abbrev pub noted : Act → ℕ → ℕ → Note → Note
noted (LookOpen id) w v note = cond (eqb v w) Kept note
noted (ClaimRange n from to) w v note = cond (eqb v w) (loosened note) note
noted PayLast w v note = Kept
noted SweepLast w v note = Kept
noted (ReserveGot s) w v note = Empty
noted _ w v note = note

-- the note of an own cell, and of a cell of a slot that is held, after an exchange
abbrev pub kept_note : {B : Type 0} → Option B → Note
kept_note None = Empty
kept_note (Some b) = Kept

abbrev pub fresh_note : {B : Type 0} → Option B → Note
fresh_note None = Empty
fresh_note (Some b) = Fresh

-- what a note says of a cell's value, where these are what a kept and a fresh value meet
abbrev pub NoteSays : {B : Type 0} → (B → Type 0) → (B → Type 0) → Note → Option B → Type 0
NoteSays IsKept IsFresh Empty value = value ≡ None
NoteSays IsKept IsFresh Kept value = IsSomeAnd value IsKept
NoteSays IsKept IsFresh Fresh value = IsSomeAnd value IsFresh
NoteSays IsKept IsFresh Loose value = Unit {0}

-- What is noted of a cell of a slot: by its own worker, and by each worker if that held the slot.
-- If its own worker is not inside, the cell is kept.
pub record CellNotes : Type 0 where
  pub own : Note
  pub holder : ℕ → Note

-- what a value of one worker has to fit, by the id of a task set and the ranges claimed of it
module _ {B : Type 0} (fits : ℕ → List (ℕ × ℕ) → B → Type 0) where
  -- the value fits the task set that the holder may install next, and no ranges
  abbrev pub FitsNext : Held → B → Type 0
  FitsNext held b = IsSome held.query × fits (next_id held) [] b

  -- the value fits the ranges that were claimed of the task set that the holder finalises
  abbrev pub FitsFinalised : (ℕ → List (ℕ × ℕ)) → Held → B → Type 0
  FitsFinalised ranges held b =
      (held.again ≡ true) × fits (finalised_id held) (ranges (finalised_id held)) b

  -- the value fits the ranges that were claimed of a task set
  abbrev pub FitsClaims : (ℕ → List (ℕ × ℕ)) → ℕ → B → Type 0
  FitsClaims ranges id b = fits id (ranges id) b

-- What the values of a worker's cells have to fit, and the ranges that the worker claimed of each
-- task set.
pub record Owner (B : Type 0) : Type 1 where
  pub fits : ℕ → List (ℕ × ℕ) → B → Type 0
  pub ranges : ℕ → List (ℕ × ℕ)

-- the value of a cell of this owner at a slot in this state, by what is noted of it
abbrev pub CellAt : {B : Type 0} → Owner B → SlotState → CellNotes → Option B → Type 0
CellAt owner state.Empty noted_so value = value ≡ None
CellAt owner (state.Reserved w held) noted_so value =
    NoteSays (λ b. ⊥) (FitsNext owner.fits held) (noted_so.holder w) value
CellAt owner (state.Open t) noted_so value =
    NoteSays (FitsClaims owner.fits owner.ranges t.id) (λ b. ⊥) noted_so.own value
CellAt owner (state.Shut t end) noted_so value =
    NoteSays (FitsClaims owner.fits owner.ranges t.id) (λ b. ⊥) noted_so.own value
CellAt owner (state.Finishing id w held) noted_so value = NoteSays
    (FitsClaims owner.fits owner.ranges id) (FitsNext owner.fits held) (noted_so.holder w) value

-- ---- what is known of cells at a moment

-- an object after a history, with the note that each worker has of each worker's cell
pub record Moment : Type 0 where
  pub shape : Shape
  pub history : List Entry
  pub notes : ℕ → ℕ → Note

-- where a worker is then
abbrev pub place_then : Moment → ℕ → Place
place_then moment w = place_of moment.shape moment.history w

-- the state of a slot then
abbrev pub slot_then : Moment → ℕ → SlotState
slot_then moment s = (state_after moment.shape moment.history).slots s

-- the ranges that a worker has claimed of a task set then
abbrev pub ranges_then : Moment → ℕ → ℕ → List (ℕ × ℕ)
ranges_then moment w id = ranges_of moment.shape w id moment.history

-- a cell: its slot, its worker, and what it holds
pub record Cell (B : Type 0) : Type 0 where
  pub slot : ℕ
  pub worker : ℕ
  pub value : Option B

-- what is noted then of the cell of v at the slot s
abbrev pub cell_notes : Moment → ℕ → ℕ → CellNotes
cell_notes moment s v = record {
  own = cond (has_own_cell (place_then moment v) s) (moment.notes v v) Kept;
  holder = λ w. moment.notes w v;
}

-- what is known of a cell then, where the values of its worker meet `fits`
abbrev pub CellOf : {B : Type 0} → (ℕ → List (ℕ × ℕ) → B → Type 0) → Moment → Cell B → Type 0
CellOf fits moment cell =
    CellAt (record { fits = fits; ranges = ranges_then moment cell.worker })
    (slot_then moment cell.slot) (cell_notes moment cell.slot cell.worker) cell.value

-- the notes after a call of w
abbrev pub notes_after : ℕ → Act → (ℕ → ℕ → Note) → ℕ → ℕ → Note
notes_after w a notes u v = cond (eqb u w) (noted a u v (notes u v)) (notes u v)

-- the moment after a call of w
abbrev pub after_call : ℕ → Act → Moment → Moment
after_call w a moment = record {
  shape = moment.shape;
  history = entry w a ∷ moment.history;
  notes = notes_after w a moment.notes;
}

-- ---- which call the notes of its worker allow

-- a worker that calls: of an object of this shape, at this place, with these notes of cells
pub record Caller : Type 0 where
  pub shape : Shape
  pub worker : ℕ
  pub place : Place
  pub notes : ℕ → Note

-- a worker at a moment
abbrev pub caller_then : Moment → ℕ → Caller
caller_then moment w = record {
  shape = moment.shape;
  worker = w;
  place = place_then moment w;
  notes = moment.notes w;
}

-- who leaves from inside has kept its own cell
abbrev pub LeavesKept : Caller → Type 0
LeavesKept caller = has_cell caller.place ≡ true → caller.notes caller.worker ≡ Kept

-- every cell that is with the worker has this note
abbrev pub HasNoted : Note → Caller → Type 0
HasNoted note caller = (v : ℕ) → v < caller.shape.workers → caller.notes v ≡ note

-- What a call needs of its worker's notes and of the subject, before its reply is known: who leaves
-- from inside has kept its own cell, who installs has a fresh value in every cell and installs a
-- task set of the subject, and who releases has emptied every cell.
abbrev pub CellsAllow : (ℕ → Option ℕ) → Caller → Call → Type 0
CellsAllow totals caller Leaving = LeavesKept caller
CellsAllow totals caller (Installing id) =
    HasNoted Fresh caller × InstallsOf totals (Install id) (held_at caller.place).total
CellsAllow totals caller Releasing = HasNoted Empty caller
CellsAllow totals caller _ = Unit {0}

-- the same of a call with its reply
abbrev pub NotesAllow : (ℕ → Option ℕ) → Caller → Act → Type 0
NotesAllow totals caller a = CellsAllow totals caller (call_of a)
