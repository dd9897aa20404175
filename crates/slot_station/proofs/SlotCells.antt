-- A call and the cells of the slot that it changes. It rules out an install before every bench of the stage before was
-- taken.
use Rattle.std.proofs.Common.{◌≡◌, ℕ, ◌<◌, Bool, false, List, [], ◌∷◌, Option, refl, sym, ap, ◌∙◌}
use Rattle.std.proofs.Common.{subst}
use mathlib.Core.Logic.{dite}
use native.Mathlib.Decide.{ℕ_discrete}
use Rattle.slot_history.specs.declared.shape.Shape.{Shape}
use Rattle.slot_history.specs.declared.act.Act.{Act}
use Rattle.slot_history.specs.declared.act.Act.TheVariants.{ClaimRange, ClaimUsed, ShutWon, PayLast}
use Rattle.slot_history.specs.declared.act.Act.TheVariants.{PayDone, MarkMarked, MarkMissed}
use Rattle.slot_history.specs.declared.act.Act.TheVariants.{SweepLast, SweepOthers, ReserveGot}
use Rattle.slot_history.specs.declared.act.Act.TheVariants.{AdmitGot, NoteDone, SetTotal, Install}
use Rattle.slot_history.specs.declared.act.Act.TheVariants.{Release}
use Rattle.slot_history.specs.declared.act.Entry.{Entry}
use Rattle.slot_history.specs.declared.place.Held.{Held}
use Rattle.slot_history.specs.declared.place.Place.TheVariants.{Holding}
use Rattle.slot_history.specs.States.{SlotState, ObjectState, slot_of, id_at, is_empty}
use Rattle.slot_history.specs.States.{finalisation, next_id, has_own_cell}
use Rattle.slot_history.specs.Steps.{site, moved, finalised_by, opened, slot_after, state_after}
use Rattle.slot_history.specs.Histories.{IsLegal, entry, ranges_of}
use Rattle.slot_history.specs.Table.{IsTable}
use Rattle.slot_history.proofs.Table.{table}
use Rattle.slot_history.proofs.Own.{place-mine, place-other, ranges-mine, ranges-other}
use Rattle.slot_history.proofs.Holdings.{holder-slot}
use Rattle.slot_history.proofs.Duties.{IsHeldBy}
use Rattle.slot_station.specs.declared.note.Note.{Note}
use Rattle.slot_station.specs.declared.note.Note.TheVariants as note
use Rattle.slot_station.proofs.CellSteps.{Known, cell-claimed, cell-shut, cell-ended, cell-noted}
use Rattle.slot_station.proofs.CellSteps.{cell-totalled, cell-reserved, cell-admitted}
use Rattle.slot_station.proofs.CellSteps.{cell-released, cell-finalised, cell-opened}
use Rattle.slot_history.proofs.Places.{held-outside}
use Rattle.slot_station.proofs.CellPlaces.{note-mine}
use Rattle.slot_station.specs.Cells.{notes_after}
use Rattle.slot_history.proofs.Inside.{unclaimed}
use Rattle.slot_station.specs.Cells.{caller_then, NotesAllow}

-- the cell of the worker v at the slot s, which has x; its values meet `fits`
module _ {B : Type 0} (fits : ℕ → List (ℕ × ℕ) → B → Type 0) (d : Shape) (h : List Entry) (N : ℕ → ℕ → Note) (w s v : ℕ) (in_v : v < d.workers)
    (x : Option B) where
  abbrev old : ObjectState
  old = state_after d h

  abbrev new : Act → ObjectState
  new a = state_after d (entry w a ∷ h)

  abbrev ranges : Act → ℕ → List (ℕ × ℕ)
  ranges a id = ranges_of d v id (entry w a ∷ h)

  abbrev inside : Act → Bool
  inside a = has_own_cell ((new a).places v) s

  abbrev notes : Act → ℕ → Note
  notes a u = notes_after w a N u v

  abbrev own : Act → Note
  own a = notes_after w a N v v

  -- all is as after the call, but for the slot
  abbrev pub At : Act → SlotState → Type 0
  At a X = Known fits (ranges a) X (inside a) (own a) (notes a) x

  held-here : (a : Act) (t : ℕ) (k : Held) → IsLegal d (entry w a ∷ h) → old.places w ≡ Holding t k → s ≡ slot_of (old.places w)
      → IsHeldBy w k (old.slots s)
  held-here a t k legal at is = subst (λ r. IsHeldBy w k (old.slots r)) (sym (is ∙ ap slot_of at)) (holder-slot d old (table d h legal.2) w t k legal.0 at)

  -- nobody is inside a slot whose task set is finalised now
  finalised-outside : (a : Act) (k : Held) → IsLegal d (entry w a ∷ h) → moved d a (old.places w) ≡ Holding s k → inside a ≡ false
  finalised-outside a k legal at =
      let places : IsTable d (new a) = table d (entry w a ∷ h) legal in
      held-outside d (new a) places s v w k in_v (holder-slot d (new a) places w s k legal.0 (place-mine d (entry w a) h w refl ∙ at))

  -- nor one that opens now
  opened-outside : (id : ℕ) (k : Held) → IsLegal d (entry w (Install id) ∷ h) → IsHeldBy w k (old.slots s) → inside (Install id) ≡ false
  opened-outside id k legal held = dite (ℕ_discrete v w)
      (λ same. ap (λ u. has_own_cell ((new (Install id)).places u) s) same ∙ ap (λ q. has_own_cell q s) (place-mine d (entry w (Install id)) h w refl))
      (λ other. ap (λ q. has_own_cell q s) (place-other d (entry w (Install id)) h v other) ∙ held-outside d old (table d h legal.2) s v w k in_v held)

  opened-unclaimed : (id : ℕ) → IsLegal d (entry w (Install id) ∷ h) → ranges (Install id) id ≡ []
  opened-unclaimed id legal = dite (ℕ_discrete v w) (ranges-mine d v id (entry w (Install id)) h) (ranges-other d v id (entry w (Install id)) h)
      ∙ unclaimed d h w id legal v

  last-cell : (a : Act) (k : Held) → IsLegal d (entry w a ∷ h) → moved d a (old.places w) ≡ Holding s k → notes a w ≡ note.Kept → At a (old.slots s)
      → At a (finalised_by w (old.slots s))
  last-cell a k legal at kept = subst (λ b. Known fits (ranges a) (old.slots s) b (notes_after w a N v v) (notes a) x
      → Known fits (ranges a) (finalised_by w (old.slots s)) b (notes_after w a N v v) (notes a) x)
      (sym (finalised-outside a k legal at)) (cell-finalised fits (ranges a) (notes_after w a N v v) (notes a) x w (old.slots s) kept)

  installed-cell : (id t : ℕ) (k : Held) → IsLegal d (entry w (Install id) ∷ h) → N w v ≡ note.Fresh → old.places w ≡ Holding t k → id ≡ next_id k
      → s ≡ slot_of (old.places w)
      → At (Install id) (old.slots s) → At (Install id) (opened id (old.slots s))
  installed-cell id t k legal fresh at next is =
      let held : IsHeldBy w k (old.slots s) = held-here (Install id) t k legal at is in
      let n : Note = notes_after w (Install id) N v v in
      subst (λ b. Known fits (ranges (Install id)) (old.slots s) b n (notes (Install id)) x
      → Known fits (ranges (Install id)) (opened id (old.slots s)) b n (notes (Install id)) x)
      (sym (opened-outside id k legal held))
      (cell-opened fits (ranges (Install id)) n (notes (Install id)) x w id k (old.slots s) held next (opened-unclaimed id legal)
      (note-mine w (Install id) N v ∙ fresh))

  pub slot-cell : (totals : ℕ → Option ℕ) (a : Act) → IsLegal d (entry w a ∷ h)
      → NotesAllow totals (caller_then (record { shape = d; history = h; notes = N }) w) a
      → s ≡ site a (old.places w) → At a (old.slots s) → At a (slot_after d w a (old.slots s))
  slot-cell totals (ClaimRange k from to) legal allow is = cell-claimed fits (ranges (ClaimRange k from to)) (inside (ClaimRange k from to))
      (own (ClaimRange k from to)) (notes (ClaimRange k from to)) x k (old.slots s)
  slot-cell totals (ClaimUsed k) legal allow is = cell-claimed fits (ranges (ClaimUsed k)) (inside (ClaimUsed k)) (own (ClaimUsed k))
      (notes (ClaimUsed k)) x k (old.slots s)
  slot-cell totals ShutWon legal allow is = cell-shut fits (ranges ShutWon) (inside ShutWon) (own ShutWon) (notes ShutWon) x w (old.slots s)
  slot-cell totals PayLast legal allow is = last-cell PayLast _ legal (ap (λ t. Holding t (finalisation (id_at (old.places w)))) (sym is))
      (note-mine w PayLast N v)
  slot-cell totals PayDone legal allow is = cell-ended fits (ranges PayDone) (inside PayDone) (own PayDone) (notes PayDone) x d w PayDone (old.slots s)
  slot-cell totals MarkMarked legal allow is = cell-ended fits (ranges MarkMarked) (inside MarkMarked) (own MarkMarked) (notes MarkMarked) x d w
      MarkMarked (old.slots s)
  slot-cell totals MarkMissed legal allow is = cell-ended fits (ranges MarkMissed) (inside MarkMissed) (own MarkMissed) (notes MarkMissed) x d w
      MarkMissed (old.slots s)
  slot-cell totals SweepLast legal allow is = last-cell SweepLast _ legal (ap (λ t. Holding t (finalisation (id_at (old.places w)))) (sym is))
      (note-mine w SweepLast N v)
  slot-cell totals (SweepOthers k) legal allow is = cell-ended fits (ranges (SweepOthers k)) (inside (SweepOthers k)) (own (SweepOthers k))
      (notes (SweepOthers k)) x d w (SweepOthers k) (old.slots s)
  slot-cell totals (ReserveGot t) legal allow is = cell-reserved fits (ranges (ReserveGot t)) (inside (ReserveGot t)) (own (ReserveGot t))
      (notes (ReserveGot t)) x w (old.slots s)
      (ap (λ r. is_empty (old.slots r)) is ∙ legal.1.2) (note-mine w (ReserveGot t) N v)
  slot-cell totals (AdmitGot q) legal allow is = cell-admitted fits (ranges (AdmitGot q)) (inside (AdmitGot q)) (own (AdmitGot q))
      (notes (AdmitGot q)) x q w legal.1.1 (old.slots s)
      (held-here (AdmitGot q) legal.1.0 legal.1.1 legal legal.1.2 is) legal.1.3
  slot-cell totals (NoteDone k) legal allow is = cell-noted fits (ranges (NoteDone k)) (inside (NoteDone k)) (own (NoteDone k)) (notes (NoteDone k)) x
      k (old.slots s)
  slot-cell totals (SetTotal k) legal allow is = cell-totalled fits (ranges (SetTotal k)) (inside (SetTotal k)) (own (SetTotal k))
      (notes (SetTotal k)) x k (old.slots s)
  slot-cell totals (Install id) legal allow is = installed-cell id legal.1.0 legal.1.1 legal (allow.0 v in_v) legal.1.2 legal.1.4 is
  slot-cell totals Release legal allow is = cell-released fits (ranges Release) (inside Release) (own Release) (notes Release) x w legal.1.1 (old.slots s)
      (held-here Release legal.1.0 legal.1.1 legal legal.1.2 is) (note-mine w Release N v ∙ allow v in_v)
  slot-cell totals _ legal allow is = λ c. c
