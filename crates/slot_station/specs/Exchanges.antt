-- An exchange of a cell: what a worker sees of a moment, who may make the exchange, what a value
-- that is found or put has to fit, and what is known of cells after it.
use Rattle.std.specs.Prelude.{◌≡◌, ◌⊎◌, ℕ, ◌<◌, true, cond, eqb, ◌&&◌, List, Option}
use Rattle.slot_history.specs.declared.place.Held.{Held}
use Rattle.slot_history.specs.declared.place.Place.{Place}
use Rattle.slot_history.specs.declared.place.Place.TheVariants.{Holding}
use Rattle.slot_history.specs.States.{has_cell, slot_of, id_at}
use Rattle.slot_history.specs.Histories.{IsLegal, Begins, own_calls, ranges_of}
use Rattle.slot_station.specs.declared.log.Exchange.{Exchange}
use Rattle.slot_station.specs.declared.note.Note.{Note}
use Rattle.slot_station.specs.Cells.{Moment, Cell, Caller, kept_note, fresh_note, NoteSays}
use Rattle.slot_station.specs.Cells.{FitsNext, FitsFinalised, FitsClaims}
use Rattle.slot_station.specs.Desks.{Seen, own_place}

-- What a station shows is seen at this moment: the history is legal, the worker's trail begins it
-- and has all of its own calls, and its notes are those of the moment.
pub record IsSeenAt {O Sub : Type 0} (moment : Moment) (seen : Seen O Sub) : Type 0 where
  pub legal : IsLegal moment.shape moment.history
  pub shape_is : seen.desk.shape ≡ moment.shape
  pub below : seen.desk.worker < moment.shape.workers
  pub begins : Begins moment.history seen.trail
  pub own : own_calls seen.desk.worker moment.history ≡ own_calls seen.desk.worker seen.trail
  pub notes : (v : ℕ) → moment.notes seen.desk.worker v ≡ seen.notes v

-- The worker may exchange the cell of v, of the slot at which it is: its own while it is inside,
-- and that of each worker while it holds the slot.
abbrev pub MayExchange : Caller → ℕ → Type 0
MayExchange caller v = ((v ≡ caller.worker) × (has_cell caller.place ≡ true))
    ⊎ ((s : ℕ) × (held : Held) × (caller.place ≡ Holding s held) × (v < caller.shape.workers))

-- the notes after an exchange
abbrev pub notes_exchanged : Exchange → (ℕ → ℕ → Note) → ℕ → ℕ → Note
notes_exchanged exchange notes w v =
    cond (eqb w exchange.worker && eqb v exchange.cell) exchange.note (notes w v)

-- the moment after the exchange
abbrev pub after_exchange : Exchange → Moment → Moment
after_exchange exchange moment = record {
  shape = moment.shape;
  history = moment.history;
  notes = notes_exchanged exchange moment.notes;
}

-- ---- the values, by the place of the worker that exchanges

-- the note of what is put: fresh at a slot that is held, and kept in an own cell
abbrev pub put_note : {B : Type 0} → Place → Option B → Note
put_note (Holding s held) value = fresh_note value
put_note place value = kept_note value

-- what values of the cell's worker fit, of whose claims of a task set these are the ranges
module _ {B : Type 0} (fits : ℕ → List (ℕ × ℕ) → B → Type 0) (ranges : ℕ → List (ℕ × ℕ)) where
  -- a kept value that is found: the ranges of the task set that is finalised, or of the own one
  abbrev pub FitsKept : Place → B → Type 0
  FitsKept (Holding s held) b = FitsFinalised fits ranges held b
  FitsKept place b = FitsClaims fits ranges (id_at place) b

  -- a fresh value that is found: the next task set; nobody finds one in its own cell
  abbrev pub FitsFresh : Place → B → Type 0
  FitsFresh (Holding s held) b = FitsNext fits held b
  FitsFresh place b = ⊥

  -- a value that is put: the next task set at a slot that is held, else the ranges of the own one
  abbrev pub FitsPut : Place → B → Type 0
  FitsPut (Holding s held) b = FitsNext fits held b
  FitsPut place b = FitsClaims fits ranges (id_at place) b

-- ---- the same, by what the worker's station shows

module _ {O Sub : Type 0} (seen : Seen O Sub) (v : ℕ) where
  -- the cell of v at the slot at which the worker is, if it holds this
  abbrev pub cell_here : {B : Type 0} → Option B → Cell B
  cell_here value = record { slot = slot_of (own_place seen); worker = v; value = value }

  -- the worker exchanges that cell, and has this note of it then
  abbrev pub exchange_here : Note → Exchange
  exchange_here note = record { worker = seen.desk.worker; cell = v; note = note }

  -- the ranges that v claimed of a task set, by the trail
  abbrev pub ranges_seen : ℕ → List (ℕ × ℕ)
  ranges_seen id = ranges_of seen.desk.shape v id seen.trail

  module _ {B : Type 0} (fits : Sub → ℕ → ℕ → List (ℕ × ℕ) → B → Type 0) where
    -- the cell holds what the worker's note of it says
    abbrev pub HoldsNoted : Option B → Type 0
    HoldsNoted value =
        let of_worker : ℕ → List (ℕ × ℕ) → B → Type 0 = fits seen.desk.subject v in
        NoteSays (FitsKept of_worker ranges_seen (own_place seen))
        (FitsFresh of_worker ranges_seen (own_place seen)) (seen.notes v) value

    -- a value that the worker puts there fits
    abbrev pub MayPut : B → Type 0
    MayPut b = FitsPut (fits seen.desk.subject v) ranges_seen (own_place seen) b
