-- An exchange of a cell over a seat of a table.
use Rattle.std.proofs.Common.{◌≡◌, ℕ, ◌+◌, ◌*◌, ◌<◌, List, ◌∷◌, length, set, get_or, slice_get, Option, Some, IfSome, sym, ap, ap₂, ◌∙◌, subst}
use Rattle.std.proofs.lemmas.Option.{slice_get_read}
use Rattle.slot_history.specs.declared.shape.Shape.{Shape}
use Rattle.slot_history.specs.States.{slot_of}
use Rattle.slot_history.specs.Histories.{IsLegal}
use Rattle.slot_station.specs.declared.note.Note.{Note}
use Rattle.slot_station.specs.declared.log.Logged.TheVariants.{Exchanged}
use Rattle.slot_station.specs.declared.station.Fits.{Ghosts}
use Rattle.slot_station.specs.Desks.{Seen, own_place, caller_of}
use Rattle.slot_station.specs.Exchanges.{MayExchange, HoldsNoted, MayPut, exchange_here, put_note}
use Rattle.slot_station.specs.Laws.{ExchangeKeeps}
use Rattle.slot_station.specs.Log.{calls_of, moment_of}
use Rattle.slot_station.proofs.ExchangesSeen.{exchanges-go-on}
use Rattle.slot_station.proofs.Lists.{pair-within}
use Rattle.one_thread.specs.Stories.{Story}
use Rattle.one_thread.specs.Seats.{desk_over, shown_by}
use Rattle.one_thread.specs.Tables.{IsTableKept, table_of}
use Rattle.one_thread.proofs.Seated.{Seat, seen-at, table-subject}
use Rattle.one_thread.proofs.TableCells.{place-in, table-finds, table-exchange}

-- the seat's worker may exchange the cell of v at its slot, which lies at i
module _ {B Sub : Type 0} {b : Ghosts B Sub} (seat : Seat b) (legal : IsLegal seat.object.shape (calls_of seat.object.log)) where
  abbrev o : Story
  o = seat.object

  abbrev shown : Seen (Unit {0}) Sub
  shown = shown_by (desk_over seat.start seat.worker) seat.now.log

  abbrev cells : List (Option B)
  cells = seat.cells

  module _ (v : ℕ) (may : MayExchange (caller_of shown) v) {s i : ℕ} {d : Shape} (slot_is : s ≡ slot_of (own_place shown)) (shape_is : d ≡ o.shape)
      (lies : i ≡ s * d.workers + v) where
    at : i ≡ slot_of (own_place shown) * o.shape.workers + v
    at = lies ∙ ap₂ (λ t (e : Shape). t * e.workers + v) slot_is shape_is

    keeps : ExchangeKeeps b.fits (moment_of o.shape o.log) shown v
    keeps = exchanges-go-on b.fits (Unit {0}) (moment_of o.shape o.log) shown (seen-at seat legal) v may

    kept : IsTableKept b (table_of o shown.desk.subject) cells
    kept = subst (λ x. IsTableKept b (table_of o x) cells) (table-subject seat) seat.kept

    pub seat-index : i < length cells
    seat-index = subst (λ j. j < length cells) (sym at) (place-in b o shown cells kept v keeps)

    pub seat-finds : {r : Option B} → r ≡ get_or cells i r → HoldsNoted shown v b.fits r
    seat-finds {r = r} read =
        let j = slot_of (own_place shown) * o.shape.workers + v in
        let found : slice_get cells j ≡ Some r = slice_get_read cells (o.shape.slots * o.shape.workers) j r (sym seat.kept.count)
        (pair-within o.shape.slots o.shape.workers (slot_of (own_place shown)) v keeps.in_slots keeps.in_workers) (read ∙ ap (λ k. get_or cells k r) at) in
        table-finds b o shown cells kept v keeps r found

    pub seat-exchanges : {new dest : Option B} → dest ≡ new → {note : Note} → note ≡ put_note (own_place shown) new → IfSome new (MayPut shown v b.fits)
        → {after : Story} → after ≡ record o { log = Exchanged (exchange_here shown v note) ∷ o.log }
        → IsTableKept b (table_of after seat.subject) (set cells i dest)
    seat-exchanges {new = new} {dest = dest} puts {note = note} is fit {after = after} grows =
        let longer : Story = record o { log = Exchanged (exchange_here shown v note) ∷ o.log } in
        let IsKept : Story → ℕ → Option B → Type 0 = λ y j x. IsTableKept b (table_of y seat.subject) (set cells j x) in
        subst (λ y. IsKept y i dest) (sym grows) (subst (λ j. IsKept longer j dest) (sym at)
        (subst (λ x. IsKept longer (slot_of (own_place shown) * o.shape.workers + v) x) (sym puts)
        (subst (λ x. IsTableKept b (table_of longer x) (set cells (slot_of (own_place shown) * o.shape.workers + v) new)) (sym (table-subject seat))
        (table-exchange b o shown cells kept v keeps new fit note is))))
