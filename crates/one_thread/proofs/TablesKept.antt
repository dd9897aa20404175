-- A call keeps what a table keeps of its cells.
use Rattle.std.proofs.Common.{◌≡◌, ℕ, ◌+◌, ◌*◌, List, [], ◌∷◌, length, Option, Some, None, subst}
use Rattle.std.specs.List.{slice_get}
use Rattle.slot_history.specs.declared.shape.Shape.{Shape}
use Rattle.slot_history.specs.declared.act.Act.{Act}
use Rattle.slot_history.specs.declared.act.Entry.{Entry}
use Rattle.slot_history.specs.declared.place.Place.{Place}
use Rattle.slot_history.specs.Histories.{IsLegal, entry, place_of}
use Rattle.slot_history.proofs.Subject.{subject-goes-on}
use Rattle.slot_station.specs.declared.log.Logged.{Logged}
use Rattle.slot_station.specs.Log.{calls_of, call, note_in}
use Rattle.slot_station.proofs.CellsKept.{cell-call}
use Rattle.slot_station.specs.declared.station.Fits.{Ghosts}
use Rattle.one_thread.specs.Stories.{Story}
use Rattle.one_thread.specs.Tables.{IsTableKept, table_of}
use Rattle.one_thread.specs.Seats.{trail_in}
use Rattle.one_thread.proofs.Trails.{place-trail}
use Rattle.slot_station.specs.Cells.{Caller, NotesAllow}
use Rattle.slot_station.proofs.OwnCells.{installs-of}

module _ {B Sub : Type 0} (b : Ghosts B Sub) (d : Shape) (subject : Sub) where
  abbrev totals : ℕ → Option ℕ
  totals = b.total subject

  -- the cells of the table over an object of this shape, with this log
  abbrev IsKept : List Logged → List (Option B) → Type 0
  IsKept log cells = IsTableKept b (let object : Story = record { shape = d; log = log } in table_of object subject) cells

  -- every cell is empty where nothing was done
  pub table-opening : d.queries ≡ b.queries subject → (cells : List (Option B)) → length cells ≡ d.slots * d.workers
      → ((i : ℕ) (x : Option B) → slice_get cells i ≡ Some x → x ≡ None) → IsKept [] cells
  table-opening asks cells count none = record {
    queries_are = asks;
    of_subject = λ id total h. absurd (cc h);
    count = count;
    cells_are = λ s v x in_s in_v at. none (s * d.workers + v) x at;
  }

  abbrev caller_with : List Logged → ℕ → Place → Caller
  caller_with log w p = record { shape = d; worker = w; place = p; notes = note_in log w }

  -- a call whose worker's notes allow it, by its place that its trail gives
  pub table-call : (log : List Logged) (cells : List (Option B)) (w : ℕ) (a : Act) → IsLegal d (calls_of (call w a ∷ log))
      → NotesAllow totals (caller_with log w (place_of d (trail_in w (calls_of log)) w)) a
      → IsKept log cells → IsKept (call w a ∷ log) cells
  table-call log cells w a legal allow ok =
      let h : List Entry = calls_of log in
      let may : NotesAllow totals (caller_with log w (place_of d h w)) a =
      subst (λ p. NotesAllow totals (caller_with log w p) a) (place-trail d w h) allow in record {
        queries_are = ok.queries_are;
        of_subject = subject-goes-on totals d (entry w a) h ok.of_subject (installs-of totals (caller_with log w (place_of d h w)) a may);
        count = ok.count;
        cells_are = λ s v x in_s in_v at. cell-call (b.fits subject v) totals d h (note_in log) w a legal may s x v in_v (ok.cells_are s v x in_s in_v at);
      }
