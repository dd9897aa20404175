-- A worker's desk, what a station shows of itself, and what a call or an exchange changes of that.
use Rattle.std.specs.Prelude.{◌≡◌, ◌≢◌, ℕ, ◌<◌, List, Option}
use Rattle.slot_history.specs.declared.shape.Shape.{Shape}
use Rattle.slot_history.specs.declared.act.Act.{Act}
use Rattle.slot_history.specs.declared.act.Entry.{Entry}
use Rattle.slot_history.specs.declared.place.Held.{Held}
use Rattle.slot_history.specs.declared.place.Place.{Place}
use Rattle.slot_history.specs.declared.place.Place.TheVariants.{Leading}
use Rattle.slot_history.specs.States.{id_at, held_at}
use Rattle.slot_history.specs.Bounds.{IsShape}
use Rattle.slot_history.specs.Histories.{Called, IsOfTotals, entry, place_of, ranges_of}
use Rattle.slot_station.specs.declared.reply.Leave.{Leave}
use Rattle.slot_station.specs.declared.reply.Leave.TheVariants.{Left}
use Rattle.slot_station.specs.declared.note.Note.{Note}
use Rattle.slot_station.specs.Cells.{Caller, noted, NoteSays, FitsNext, FitsFinalised}

-- what no call of a station changes: whose it is, how large the object is, and the subject that the
-- object serves
pub record Desk (Sub : Type 0) : Type 0 where
  pub worker : ℕ
  pub shape : Shape
  pub subject : Sub

-- what holds of the desk of every station: the shape is one that an object may have, the worker is
-- one of its workers, and the queries are the subject's
pub record IsDesk {Sub : Type 0} (queries : Sub → ℕ) (desk : Desk Sub) : Type 0 where
  pub shape_is : IsShape desk.shape
  pub below : desk.worker < desk.shape.workers
  pub queries_are : desk.shape.queries ≡ queries desk.subject

-- What a station shows of itself: its origin and its desk, which no call changes; all that its
-- worker has seen, the newest first; and of each worker the note of its cell at the slot at which
-- the station's worker is, if that cell is with it.
pub record Seen (O Sub : Type 0) : Type 0 where
  pub origin : O
  pub desk : Desk Sub
  pub trail : List Entry
  pub notes : ℕ → Note

module _ {O Sub : Type 0} where
  -- where the worker is, by its trail
  abbrev pub own_place : Seen O Sub → Place
  own_place seen = place_of seen.desk.shape seen.trail seen.desk.worker

  -- what it holds, by its trail
  abbrev pub own_holding : Seen O Sub → Held
  own_holding seen = held_at (own_place seen)

  -- the ranges that it claimed of the task set with which it is inside, the newest first
  abbrev pub own_ranges : Seen O Sub → List (ℕ × ℕ)
  own_ranges seen = ranges_of seen.desk.shape seen.desk.worker (id_at (own_place seen)) seen.trail

  -- the totals of the subject's task sets, by their ids
  abbrev pub totals_of : (Sub → ℕ → Option ℕ) → Seen O Sub → ℕ → Option ℕ
  totals_of total seen = total seen.desk.subject

  -- the total of the task set with which the worker is inside
  abbrev pub own_total : (Sub → ℕ → Option ℕ) → Seen O Sub → Option ℕ
  own_total total seen = totals_of total seen (id_at (own_place seen))

  -- the worker as one that calls
  abbrev pub caller_of : Seen O Sub → Caller
  caller_of seen = record {
    shape = seen.desk.shape;
    worker = seen.desk.worker;
    place = own_place seen;
    notes = seen.notes;
  }

  -- whoever shut the task set leaves without a debt
  abbrev pub LeaderOwesNothing : Seen O Sub → Leave → Type 0
  LeaderOwesNothing seen leave = (s id : ℕ) → own_place seen ≡ Leading s id → leave ≡ Left

  -- a token, or what a reply brings, is this worker's: `Is` says so by a shape, a worker and its
  -- place
  abbrev pub Owns : {X : Type 0} → (Shape → ℕ → Place → X → Type 0) → Seen O Sub → X → Type 0
  Owns Is seen token = Is seen.desk.shape seen.desk.worker (own_place seen) token

  -- The worker made this call. Its trail went on by what it had not seen and ends with the call;
  -- it is a legal history of the subject, and of the worker it has just its own calls. The notes
  -- changed as the call says.
  pub record Makes (total : Sub → ℕ → Option ℕ) (a : Act) (old new : Seen O Sub) : Type 0 where
    pub origin : new.origin ≡ old.origin
    pub desk : new.desk ≡ old.desk
    pub called : Called old.desk.shape (entry old.desk.worker a) old.trail new.trail
    pub of_subject : IsOfTotals (totals_of total old) old.desk.shape new.trail
    pub notes : (v : ℕ) → v < old.desk.shape.workers
        → new.notes v ≡ noted a old.desk.worker v (old.notes v)

  -- the worker made no call; it may have exchanged cells
  pub record KeepsTrail (old new : Seen O Sub) : Type 0 where
    pub origin : new.origin ≡ old.origin
    pub desk : new.desk ≡ old.desk
    pub trail : new.trail ≡ old.trail

  -- the worker exchanged the cell of v, and has this note of it now
  pub record Exchanges (v : ℕ) (note : Note) (old new : Seen O Sub) : Type 0 where
    pub stays : KeepsTrail old new
    pub note_is : new.notes v ≡ note
    pub others : (u : ℕ) → u ≢ v → new.notes u ≡ old.notes u

  -- the worker exchanged its own cell
  abbrev pub ExchangesOwn : Note → Seen O Sub → Seen O Sub → Type 0
  ExchangesOwn note old new = Exchanges old.desk.worker note old new

  -- what the values of cells have to fit: `fits` is of a subject, a worker, a task set and its
  -- ranges
  module _ {B : Type 0} (fits : Sub → ℕ → ℕ → List (ℕ × ℕ) → B → Type 0) (seen : Seen O Sub) where
    -- of the own cell: the ranges that the worker claimed of the task set with which it is inside
    abbrev pub OwnFits : B → Type 0
    OwnFits b = fits seen.desk.subject seen.desk.worker (id_at (own_place seen)) (own_ranges seen) b

    -- of the cell of v at the slot that is held: the task set that may be installed next, no ranges
    abbrev pub NextFits : ℕ → B → Type 0
    NextFits v b = FitsNext (fits seen.desk.subject v) (own_holding seen) b

    -- of that cell: the ranges that v claimed of the task set that is finalised
    abbrev pub FinalisedFits : ℕ → B → Type 0
    FinalisedFits v b =
        let ranges : ℕ → List (ℕ × ℕ) = λ id. ranges_of seen.desk.shape v id seen.trail in
        FitsFinalised (fits seen.desk.subject v) ranges (own_holding seen) b

    -- the own cell holds what its note says
    abbrev pub OwnCellSays : Option B → Type 0
    OwnCellSays value = NoteSays OwnFits (λ b. ⊥) (seen.notes seen.desk.worker) value

    -- the cell of v at the slot that is held holds what its note says
    abbrev pub CellSays : ℕ → Option B → Type 0
    CellSays v value = NoteSays (FinalisedFits v) (NextFits v) (seen.notes v) value
