-- An exchange of a cell keeps what a table keeps of its cells.
use Rattle.std.proofs.Common.{◌≡◌, ℕ, ◌+◌, ◌*◌, ◌<◌, List, ◌∷◌, length, set, Option, Some, IfSome, sym, ap, ap₂, ◌∙◌, subst}
use Rattle.std.specs.List.{slice_get}
use Rattle.std.proofs.lemmas.List.{length-set}
use Rattle.std.proofs.lemmas.Nat.{same_from_place}
use mathlib.Core.Logic.{dite}
use native.Mathlib.Decide.{ℕ_discrete}
use Rattle.slot_history.specs.States.{slot_of}
use Rattle.slot_station.specs.declared.note.Note.{Note}
use Rattle.slot_station.specs.declared.log.Logged.TheVariants.{Exchanged}
use Rattle.slot_station.specs.declared.station.Fits.{Ghosts}
use Rattle.slot_station.specs.Cells.{CellOf}
use Rattle.slot_station.specs.Desks.{Seen, own_place}
use Rattle.slot_station.specs.Exchanges.{HoldsNoted, MayPut, exchange_here, put_note}
use Rattle.slot_station.specs.Laws.{ExchangeKeeps}
use Rattle.slot_station.specs.Log.{moment_of}
use Rattle.slot_station.proofs.Lists.{get-set_same, get-set_other, pair-within}
use Rattle.one_thread.specs.Stories.{Story}
use Rattle.one_thread.specs.Tables.{IsTableKept, table_of}

-- a worker, by what its seat shows, exchanges the cell of v in a table with these cells
module _ {B O Sub : Type 0} (b : Ghosts B Sub) (object : Story) (seen : Seen O Sub) (cells : List (Option B))
    (ok : IsTableKept b (table_of object seen.desk.subject) cells) (v : ℕ)
    (keeps : ExchangeKeeps b.fits (moment_of object.shape object.log) seen v) where
  abbrev subject : Sub
  subject = seen.desk.subject

  abbrev s : ℕ
  s = slot_of (own_place seen)

  abbrev n : ℕ
  n = object.shape.workers

  -- where the cell lies
  pub place-in : s * n + v < length cells
  place-in = subst (λ m. s * n + v < m) (sym ok.count) (pair-within object.shape.slots n s v keeps.in_slots keeps.in_workers)

  -- what is found there
  pub table-finds : (x : Option B) → slice_get cells (s * n + v) ≡ Some x → HoldsNoted seen v b.fits x
  table-finds x at = keeps.found x (ok.cells_are s v x keeps.in_slots keeps.in_workers at)

  abbrev after : Note → Story
  after note = record object { log = Exchanged (exchange_here seen v note) ∷ object.log }

  -- the table with another value there, that fits
  pub table-exchange : (new : Option B) → IfSome new (MayPut seen v b.fits) → (note : Note) → note ≡ put_note (own_place seen) new
      → IsTableKept b (table_of (after note) subject) (set cells (s * n + v) new)
  table-exchange new fit note is =
      let Cell : ℕ → ℕ → Option B → Type 0 = λ t u y. CellOf (b.fits subject u) (moment_of object.shape (after note).log)
      (record { slot = t; worker = u; value = y }) in record {
        queries_are = ok.queries_are;
        of_subject = ok.of_subject;
        count = length-set cells (s * n + v) new ∙ ok.count;
        cells_are = λ t u x in_t in_u at. dite (ℕ_discrete (t * n + u) (s * n + v))
            (λ e. let q = same_from_place t u s v n in_u keeps.in_workers e in
            let is_new : Some new ≡ Some x = sym (get-set_same cells (s * n + v) new place-in) ∙ ap (slice_get (set cells (s * n + v) new)) (sym e) ∙ at in
            subst (λ y. Cell t u y) (let r : new ≡ x = cc in r)
            (subst (λ a. Cell a u new) (sym q.0) (subst (λ a. Cell s a new) (sym q.1) (keeps.put new fit note is))))
            (λ ne. keeps.others note (record { slot = t; worker = u; value = x }) (λ same e. ne (ap₂ (λ a c. a * n + c) same e))
            (ok.cells_are t u x in_t in_u (sym (get-set_other cells (s * n + v) (t * n + u) new ne) ∙ at)));
      }
