-- The log of a one-thread form: its calls and its exchanges of cells, the newest first.
use Rattle.std.specs.Prelude.{ℕ, List, [], ◌∷◌, cond, eqb, ◌&&◌}
use Rattle.slot_history.specs.declared.shape.Shape.{Shape}
use Rattle.slot_history.specs.declared.act.Act.{Act}
use Rattle.slot_history.specs.declared.act.Entry.{Entry}
use Rattle.slot_history.specs.Histories.{entry}
use Rattle.slot_station.specs.declared.note.Note.{Note}
use Rattle.slot_station.specs.declared.note.Note.TheVariants.{Loose}
use Rattle.slot_station.specs.declared.log.Logged.{Logged}
use Rattle.slot_station.specs.declared.log.Logged.TheVariants.{Call, Exchanged}
use Rattle.slot_station.specs.Cells.{Moment, noted}

-- the history: the calls of a log
abbrev pub calls_of : List Logged → List Entry
calls_of [] = []
calls_of (Call e ∷ log) = e ∷ calls_of log
calls_of (Exchanged exchange ∷ log) = calls_of log

-- the history of the one log that is shown
abbrev pub calls_of_first : List (List Logged) → List Entry
calls_of_first [] = []
calls_of_first (log ∷ logs) = calls_of log

-- the note that the worker w has of the cell of v, at the slot at which w is
abbrev pub note_in : List Logged → ℕ → ℕ → Note
note_in [] w v = Loose
note_in (Call e ∷ log) w v = let before = note_in log w v in
    cond (eqb w e.worker) (noted e.act w v before) before
note_in (Exchanged exchange ∷ log) w v =
    cond (eqb w exchange.worker && eqb v exchange.cell) exchange.note (note_in log w v)

-- what is known of cells after a log of an object of this shape
abbrev pub moment_of : Shape → List Logged → Moment
moment_of d log = record { shape = d; history = calls_of log; notes = note_in log }

-- who made the step
abbrev pub who : Logged → ℕ
who (Call e) = e.worker
who (Exchanged exchange) = exchange.worker

abbrev pub call : ℕ → Act → Logged
call w a = Call (entry w a)
