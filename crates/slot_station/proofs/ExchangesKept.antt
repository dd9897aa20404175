-- What a worker finds in a cell that it exchanges, and that the exchange keeps what is known of every cell, by the whole history.
use Rattle.std.proofs.Common.{◌≡◌, ◌≢◌, ℕ, ◌<◌, ◌⊎◌, true, false, cond, eqb, ◌&&◌, List, Option}
use Rattle.std.proofs.Common.{IfSome}
use Rattle.std.proofs.Common.{⊎_elim, refl, sym, ap, ap₂, ◌∙◌, subst, eq-eqb, ne_eqb}
use Rattle.std.proofs.Math.Path.{transport}
use Rattle.std.proofs.Math.Bool.{and-false}
use mathlib.Core.Bool.{true≢false}
use Rattle.slot_history.specs.declared.shape.Shape.{Shape}
use Rattle.slot_history.specs.declared.act.Entry.{Entry}
use Rattle.slot_history.specs.declared.place.Held.{Held}
use Rattle.slot_history.specs.declared.place.Place.{Place}
use Rattle.slot_history.specs.declared.place.Place.TheVariants.{Holding}
use Rattle.slot_history.specs.States.{Finishing, ObjectState, slot_of, id_at, id_of, finalised_id}
use Rattle.slot_history.specs.States.{has_cell, has_own_cell}
use Rattle.slot_history.specs.Steps.{state_after}
use Rattle.slot_history.specs.Bounds.{IsFinalisation, IsSlotSound}
use Rattle.slot_history.specs.Histories.{IsLegal}
use Rattle.slot_history.proofs.Table.{table}
use Rattle.slot_history.proofs.Holdings.{holder-slot, slots-sound, holder-place}
use Rattle.slot_history.proofs.Holders.{finalises-slot}
use Rattle.slot_history.proofs.Duties.{IsHeldBy}
use Rattle.slot_station.specs.declared.log.Exchange.{Exchange}
use Rattle.slot_station.specs.declared.note.Note.{Note}
use Rattle.slot_station.specs.Cells.{Moment, Cell, CellOf, place_then, ranges_then, NoteSays}
use Rattle.slot_station.specs.Cells.{FitsNext, FitsFinalised, FitsClaims}
use Rattle.slot_station.specs.Exchanges.{notes_exchanged, after_exchange, put_note, FitsKept}
use Rattle.slot_station.specs.Exchanges.{FitsFresh, FitsPut}
use Rattle.slot_station.proofs.Exchanges.{says-kept, says-fresh, says-held, held-says, own-cell-is}
use Rattle.slot_station.proofs.Exchanges.{inside-only, inside-holds, cell-else}

-- ---- the notes after an exchange

note-exchanged : (x : Exchange) (N : ℕ → ℕ → Note) → notes_exchanged x N x.worker x.cell ≡ x.note
note-exchanged x N = ap₂ (λ a b. cond (a && b) x.note (N x.worker x.cell)) (eq-eqb x.worker x.worker refl) (eq-eqb x.cell x.cell refl)

note-of_other : (x : Exchange) (N : ℕ → ℕ → Note) (u v : ℕ) → u ≢ x.worker → notes_exchanged x N u v ≡ N u v
note-of_other x N u v other = ap (λ a. cond (a && eqb v x.cell) x.note (N u v)) (ne_eqb u x.worker other)

note-of_else : (x : Exchange) (N : ℕ → ℕ → Note) (u v : ℕ) → v ≢ x.cell → notes_exchanged x N u v ≡ N u v
note-of_else x N u v other = ap (λ b. cond (eqb u x.worker && b) x.note (N u v)) (ne_eqb v x.cell other)
    ∙ ap (λ a. cond a x.note (N u v)) (and-false (eqb u x.worker))

-- ---- what values fit, by a place that has an own cell

module _ {B : Type 0} (fits : ℕ → List (ℕ × ℕ) → B → Type 0) (R : ℕ → List (ℕ × ℕ)) where
  -- what the own note says, the exchange finds
  finds-own : (p : Place) → has_cell p ≡ true → (n : Note) (x : Option B) → NoteSays (FitsClaims fits R (id_at p)) (λ b. ⊥) n x
      → NoteSays (FitsKept fits R p) (FitsFresh fits R p) n x
  finds-own (Holding s k) has n x says = absurd (true≢false (sym has))
  finds-own p has n x says = says

  -- what the exchange puts, is kept
  puts-own : (p : Place) → has_cell p ≡ true → (x : Option B) → IfSome x (FitsPut fits R p)
      → NoteSays (FitsClaims fits R (id_at p)) (λ b. ⊥) (put_note p x) x
  puts-own (Holding s k) has x fit = absurd (true≢false (sym has))
  puts-own p has x fit = says-kept (FitsClaims fits R (id_at p)) (λ b. ⊥) x fit

-- ---- the exchange, by the whole history

-- the worker exchanges its own cell, or holds the slot
abbrev pub IsOwn : Moment → Exchange → Type 0
IsOwn m x = (x.worker ≡ x.cell) × (has_cell (place_then m x.worker) ≡ true)

abbrev pub IsHeld : Moment → Exchange → Type 0
IsHeld m x = (k : Held) × (place_then m x.worker ≡ Holding (slot_of (place_then m x.worker)) k)

module _ {B : Type 0} (fits : ℕ → List (ℕ × ℕ) → B → Type 0) (m : Moment) (x : Exchange) (low : x.worker < m.shape.workers)
    (legal : IsLegal m.shape m.history) (has : IsOwn m x ⊎ IsHeld m x) where
  abbrev d : Shape
  d = m.shape

  abbrev h : List Entry
  h = m.history

  abbrev w : ℕ
  w = x.worker

  abbrev S : ObjectState
  S = state_after d h

  abbrev p : Place
  p = place_then m w

  abbrev R : ℕ → List (ℕ × ℕ)
  R = ranges_then m x.cell

  abbrev after : Moment
  after = after_exchange x m

  -- the cell, if it holds this
  abbrev here : Option B → Cell B
  here value = record { slot = slot_of p; worker = x.cell; value = value }

  -- the worker has cells of no other slot
  out : (t : ℕ) → t ≢ slot_of p → has_own_cell p t ≡ false
  out t other = ⊎_elim (λ own. inside-only d h w low legal own.1 t other) (λ held. ap (λ q. has_own_cell q t) held.1) has

  one : (t : ℕ) (k : Held) → IsHeldBy w k (S.slots t) → t ≡ slot_of p
  one t k holder = ⊎_elim (λ own. inside-holds d h w low legal own.1 t k holder)
      (λ held. ap slot_of (sym (holder-place d S (table d h legal) t w k holder))) has

  pub others-kept : (cell : Cell B) → (cell.slot ≡ slot_of p → cell.worker ≢ x.cell) → CellOf fits m cell → CellOf fits after cell
  others-kept cell other = cell-else fits d h w (slot_of p) x.cell out one m.notes after.notes (note-of_other x m.notes) (note-of_else x m.notes)
      cell.value cell.slot cell.worker other

  -- the slot that the worker holds
  held-slot : (k : Held) → p ≡ Holding (slot_of p) k → IsHeldBy w k (S.slots (slot_of p))
  held-slot k at = holder-slot d S (table d h legal) w (slot_of p) k low at

  -- a value that is kept there fits the task set that is finalised
  held-finalised : (k : Held) → p ≡ Holding (slot_of p) k → (id : ℕ) → S.slots (slot_of p) ≡ Finishing id w k → (y : B) → FitsClaims fits R id y
      → FitsFinalised fits R k y
  held-finalised k at id finishing y f =
      let sound : IsFinalisation id k = subst IsSlotSound finishing (slots-sound d h legal (slot_of p)) in
      let same : id ≡ finalised_id k = sym (ap id_of finishing)
      ∙ ap id_of (finalises-slot w k (S.slots (slot_of p)) (held-slot k at) (slots-sound d h legal (slot_of p)) sound.again) in
      (sound.again, subst (λ i. fits i (R i) y) same f)

  pub found-says : (value : Option B) → CellOf fits m (here value)
      → NoteSays (FitsKept fits R p) (FitsFresh fits R p) (m.notes w x.cell) value
  found-says value c = ⊎_elim
      (λ own. finds-own fits R p own.1 (m.notes w x.cell) value
      (subst (λ v. CellOf fits m (record { slot = slot_of p; worker = v; value = value })
      → NoteSays (FitsClaims fits (ranges_then m v) (id_at p)) (λ b. ⊥) (m.notes w v) value) own.0
      (transport (own-cell-is d h w low legal own.1 fits m.notes value)) c))
      (λ held. subst (λ q. NoteSays (FitsKept fits R q) (FitsFresh fits R q) (m.notes w x.cell) value) (sym held.1)
      (held-says fits R (λ u. m.notes u x.cell) value w held.0 (S.slots (slot_of p)) (has_own_cell (place_then m x.cell) (slot_of p)) (m.notes x.cell x.cell)
      (FitsFinalised fits R held.0) (held-slot held.0 held.1) (held-finalised held.0 held.1) c))
      has

  -- a value that fits is as its note says
  put-own : IsOwn m x → (value : Option B) → IfSome value (FitsPut fits R p) → x.note ≡ put_note p value → CellOf fits after (here value)
  put-own own value fit note =
      let says : NoteSays (FitsClaims fits R (id_at p)) (λ b. ⊥) (after.notes w x.cell) value =
      subst (λ n. NoteSays (FitsClaims fits R (id_at p)) (λ b. ⊥) n value) (sym (note-exchanged x m.notes ∙ note)) (puts-own fits R p own.1 value fit) in
      subst (λ v. NoteSays (FitsClaims fits (ranges_then m v) (id_at p)) (λ b. ⊥) (after.notes w v) value
      → CellOf fits after (record { slot = slot_of p; worker = v; value = value })) own.0
      (transport (sym (own-cell-is d h w low legal own.1 fits after.notes value))) says

  put-held : IsHeld m x → (value : Option B) → IfSome value (FitsPut fits R p) → x.note ≡ put_note p value → CellOf fits after (here value)
  put-held held value fit note =
      let k : Held = held.0 in
      says-held fits R (λ u. after.notes u x.cell) value w k (S.slots (slot_of p)) (has_own_cell (place_then m x.cell) (slot_of p))
      (after.notes x.cell x.cell) (held-slot k held.1)
      (λ P. subst (λ n. NoteSays P (FitsNext fits k) n value)
      (sym (note-exchanged x m.notes ∙ note ∙ ap (λ q. put_note q value) held.1))
      (says-fresh P (FitsNext fits k) value (subst (λ q. IfSome value (FitsPut fits R q)) held.1 fit)))

  pub put-says : (value : Option B) → x.note ≡ put_note p value → IfSome value (FitsPut fits R p) → CellOf fits after (here value)
  put-says value note fit = ⊎_elim (λ own. put-own own value fit note) (λ held. put-held held value fit note) has
