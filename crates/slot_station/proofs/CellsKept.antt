-- No call breaks what is known of the cells and of the task sets in the slots.
use Rattle.std.proofs.Common.{◌≡◌, ◌≢◌, ℕ, ◌<◌, ◌⊎◌, true, List, ◌∷◌, Option, refl, sym, ap, ◌∙◌}
use Rattle.std.proofs.Common.{subst, eq-eqb}
use mathlib.Core.Logic.{dite}
use native.Mathlib.Decide.{ℕ_discrete}
use Rattle.slot_history.specs.declared.shape.Shape.{Shape}
use Rattle.slot_history.specs.declared.act.Act.{Act}
use Rattle.slot_history.specs.declared.act.Entry.{Entry}
use Rattle.slot_history.specs.declared.place.Place.TheVariants.{Inside}
use Rattle.slot_history.specs.States.{SlotState, ObjectState, id_of, is_inside, has_id, is_open}
use Rattle.slot_history.specs.States.{is_shut, has_own_cell}
use Rattle.slot_history.specs.Steps.{site, moved, slot_after, state_after}
use Rattle.slot_history.specs.Histories.{IsLegal, entry, place_of, ranges_of, ranges_after}
use Rattle.slot_history.proofs.Sets.{upd-cases}
use Rattle.slot_history.proofs.Table.{table}
use Rattle.slot_history.proofs.Own.{place-mine, place-other, ranges-mine, ranges-other}
use Rattle.slot_history.proofs.Places.{inside-slots}
use Rattle.slot_station.specs.declared.note.Note.{Note}
use Rattle.slot_station.specs.Cells.{noted}
use Rattle.slot_station.proofs.CellSteps.{Known, cell-ranges, cell-notes}
use Rattle.slot_station.proofs.CellPlaces.{note-mine, note-other, notes-held}
use Rattle.slot_station.specs.Cells.{Cell, CellOf, caller_then, notes_after}
use Rattle.slot_history.proofs.Inside.{inside-one}
use Rattle.slot_station.specs.Cells.{NotesAllow}
use Rattle.slot_station.proofs.OwnCells.{own-cell}
use Rattle.slot_station.proofs.SlotCells.{At, slot-cell}

-- whoever is inside a slot is so at no other slot with the same id
module _ (d : Shape) (h : List Entry) (w : ℕ) (low : w < d.workers) (legal : IsLegal d h) (t id : ℕ) (at : place_of d h w ≡ Inside t id) where
  own-there : has_own_cell (place_of d h w) t ≡ true
  own-there = ap (λ p. has_own_cell p t) at ∙ eq-eqb t t refl

  inside-there : is_inside (place_of d h w) id ≡ true
  inside-there = ap (λ p. is_inside p id) at ∙ eq-eqb id id refl

  inside-open : (is_open ((state_after d h).slots t) ≡ true) ⊎ (is_shut ((state_after d h).slots t) ≡ true)
  inside-open = (inside-slots d (state_after d h) (table d h legal) t w id low own-there inside-there).0

  inside-apart : (s : ℕ) → t ≢ s → has_id ((state_after d h).slots s) ≡ true → id_of ((state_after d h).slots s) ≢ id
  inside-apart s other has same = other (inside-one d h legal w t id low own-there inside-there s has same)

-- a call of w after a history, with notes of cells that allow it, and a cell of the slot s that has x
module _ {B : Type 0} (fits : ℕ → List (ℕ × ℕ) → B → Type 0) (totals : ℕ → Option ℕ) (d : Shape) (h : List Entry) (N : ℕ → ℕ → Note) (w : ℕ) (a : Act)
    (legal : IsLegal d (entry w a ∷ h))
    (allow : NotesAllow totals (caller_then (record { shape = d; history = h; notes = N }) w) a) (s : ℕ) (x : Option B) where
  abbrev X : SlotState
  X = (state_after d h).slots s

  abbrev N' : ℕ → ℕ → Note
  N' = notes_after w a N

  -- the cell of u, with these notes of the holder, before the call and by all of its worker's side after it
  abbrev Before : (ℕ → Note) → ℕ → Type 0
  Before H u = Known fits (λ id. ranges_of d u id h) X (has_own_cell (place_of d h u) s) (N u u) H x

  abbrev After : (ℕ → Note) → ℕ → Type 0
  After H u = Known fits (λ id. ranges_of d u id (entry w a ∷ h)) X (has_own_cell (place_of d (entry w a ∷ h) u) s) (N' u u) H x

  cell-of-mine : (H : ℕ → Note) → Before H w → After H w
  cell-of-mine H c =
      let S : ObjectState = state_after d h in
      let R : ℕ → List (ℕ × ℕ) = λ id. ranges_after a (S.places w) id (ranges_of d w id h) in
      let own : Known fits R X (has_own_cell (moved d a (S.places w)) s) (noted a w w (N w w)) H x =
      own-cell fits d S w s (λ id. ranges_of d w id h) X H x
      (λ t id at same. subst (λ r. (is_open (S.slots r) ≡ true) ⊎ (is_shut (S.slots r) ≡ true)) same (inside-open d h w legal.0 legal.2 t id at))
      (λ t id at other. inside-apart d h w legal.0 legal.2 t id at s other)
      totals (N w) a legal.1 allow c in
      cell-ranges fits R (λ id. ranges_of d w id (entry w a ∷ h)) X (has_own_cell (place_of d (entry w a ∷ h) w) s) (N' w w) H x
      (λ has. ranges-mine d w (id_of X) (entry w a) h refl)
      (subst (λ p. Known fits R X (has_own_cell p s) (N' w w) H x) (sym (place-mine d (entry w a) h w refl))
      (subst (λ m. Known fits R X (has_own_cell (moved d a (S.places w)) s) m H x) (sym (note-mine w a N w)) own))

  cell-of-other : (H : ℕ → Note) (u : ℕ) → u ≢ w → Before H u → After H u
  cell-of-other H u other c =
      let R : ℕ → List (ℕ × ℕ) = λ id. ranges_of d u id h in
      cell-ranges fits R (λ id. ranges_of d u id (entry w a ∷ h)) X (has_own_cell (place_of d (entry w a ∷ h) u) s) (N' u u) H x
      (λ has. ranges-other d u (id_of X) (entry w a) h other)
      (subst (λ p. Known fits R X (has_own_cell p s) (N' u u) H x) (sym (place-other d (entry w a) h u other))
      (subst (λ m. Known fits R X (has_own_cell (place_of d h u) s) m H x) (sym (note-other w a N u u other)) c))

  -- the call keeps what is known of the cell of v
  pub cell-call : (v : ℕ) → v < d.workers → let cell : Cell B = record { slot = s; worker = v; value = x } in
      CellOf fits (record { shape = d; history = h; notes = N }) cell → CellOf fits (record { shape = d; history = entry w a ∷ h; notes = N' }) cell
  cell-call v in_v c =
      let S : ObjectState = state_after d h in
      let H : ℕ → Note = λ u. N' u v in
      let noted_so : Before H v = cell-notes fits (λ id. ranges_of d v id h) X (has_own_cell (place_of d h v) s) (N v v) (λ u. N u v) H x
      (notes-held d S w a N (table d h legal.2) legal.1 s v) c in
      let own : After H v = dite (ℕ_discrete v w) (λ same. subst (λ u. Before H u → After H u) (sym same) (cell-of-mine H) noted_so)
      (λ other. cell-of-other H v other noted_so) in
      upd-cases S.slots (site a (S.places w)) (slot_after d w a (S.slots (site a (S.places w)))) s (At fits d h N w s v in_v x a)
      (λ is. subst (λ t. At fits d h N w s v in_v x a (slot_after d w a (S.slots t))) is (slot-cell fits d h N w s v in_v x totals a legal allow is own))
      (λ other. own)
