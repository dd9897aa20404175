-- The table for one thread as contracts see it, and what is kept of its cells.
use Rattle.std.specs.Prelude.{◌≡◌, ℕ, ◌+◌, ◌*◌, ◌<◌, List, Option, Some, length, slice_get}
use Rattle.slot_history.specs.declared.shape.Shape.{Shape}
use Rattle.slot_history.specs.Histories.{IsOfTotals}
use Rattle.slot_station.specs.declared.log.Logged.{Logged}
use Rattle.slot_station.specs.declared.station.Fits.{Ghosts}
use Rattle.slot_station.specs.Cells.{CellOf}
use Rattle.slot_station.specs.Log.{calls_of, moment_of}
use Rattle.one_thread.specs.Stories.{Story}

-- how large the table is, the subject that it serves, and its log
pub record TableStory (Sub : Type 0) : Type 0 where
  pub shape : Shape
  pub subject : Sub
  pub log : List Logged

-- the table over this object, which serves this subject
abbrev pub table_of : {Sub : Type 0} → Story → Sub → TableStory Sub
table_of object subject = record { shape = object.shape; subject = subject; log = object.log }

-- What is kept of a table with these cells, whose contents fit as `values` says: the number of
-- queries is the subject's, the history is of the subject, and each cell is as the notes say.
pub record IsTableKept {B Sub : Type 0} (values : Ghosts B Sub) (table : TableStory Sub)
    (cells : List (Option B)) : Type 0 where
  pub queries_are : table.shape.queries ≡ values.queries table.subject
  pub of_subject : IsOfTotals (values.total table.subject) table.shape (calls_of table.log)
  pub count : length cells ≡ table.shape.slots * table.shape.workers
  pub cells_are : (s v : ℕ) (x : Option B) → s < table.shape.slots → v < table.shape.workers
      → slice_get cells (s * table.shape.workers + v) ≡ Some x
      → CellOf (values.fits table.subject v) (moment_of table.shape table.log)
      (record { slot = s; worker = v; value = x })
