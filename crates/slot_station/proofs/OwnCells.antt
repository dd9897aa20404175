-- A call and the cells of the worker that makes it: its place, its note and its ranges after the call.
use Rattle.std.proofs.Common.{◌≡◌, ◌≢◌, ℕ, ◌+◌, ◌⊎◌, Bool, true, false, cond, eqb, List, ◌∷◌}
use Rattle.std.proofs.Common.{Option, refl, sym, ap, subst, eq-eqb, ne_eqb}
use mathlib.Core.Logic.{dite}
use native.Mathlib.Decide.{ℕ_discrete}
use Rattle.std.proofs.lemmas.Bool.{cond_both}
use Rattle.slot_history.specs.declared.shape.Shape.{Shape}
use Rattle.slot_history.specs.declared.act.Act.{Act}
use Rattle.slot_history.specs.declared.act.Act.TheVariants.{Enter, LookOpen, LookInvalid}
use Rattle.slot_history.specs.declared.act.Act.TheVariants.{LookVacant, ClaimRange, ClaimUsed}
use Rattle.slot_history.specs.declared.act.Act.TheVariants.{ShutWon, ShutLost, LeaveLeft, LeaveOwe}
use Rattle.slot_history.specs.declared.act.Act.TheVariants.{PayLast, PayDone, MarkMarked}
use Rattle.slot_history.specs.declared.act.Act.TheVariants.{MarkMissed, SweepLast, SweepOthers}
use Rattle.slot_history.specs.declared.act.Act.TheVariants.{ReserveGot, ReserveTaken, AdmitGot}
use Rattle.slot_history.specs.declared.act.Act.TheVariants.{AdmitLost, Arrivals, Finished, NoteDone}
use Rattle.slot_history.specs.declared.act.Act.TheVariants.{SetTotal, Install, Release, Announce}
use Rattle.slot_history.specs.declared.act.Act.TheVariants.{TakeReturn, TakeChange}
use Rattle.slot_history.specs.declared.place.Place.{Place}
use Rattle.slot_history.specs.declared.place.Place.TheVariants.{Free, Entered, Inside, Leading}
use Rattle.slot_history.specs.declared.place.Place.TheVariants.{Owing, Announcing}
use Rattle.slot_history.specs.States.{SlotState, ObjectState, slot_of, id_of, has_id, is_open}
use Rattle.slot_history.specs.States.{is_shut, held_at, has_own_cell}
use Rattle.slot_history.specs.Steps.{moved, left, told_one}
use Rattle.slot_history.specs.Allowed.{IsAllowed}
use Rattle.slot_history.specs.Histories.{ranges_after}
use Rattle.slot_station.specs.declared.note.Note.{Note}
use Rattle.slot_station.specs.declared.note.Note.TheVariants as note
use Rattle.slot_station.specs.Cells.{has_cell, loosened, noted, Caller, NotesAllow}
use Rattle.slot_history.specs.Subject.{InstallsOf}
use Rattle.slot_station.proofs.CellSteps.{Known, cell-ranges, cell-outside, cell-enters}
use Rattle.slot_station.proofs.CellSteps.{cell-leaves, cell-claims}
use Rattle.slot_history.proofs.Places.{own-has}

-- the call is of the subject then
pub installs-of : (totals : ℕ → Option ℕ) (k : Caller) (a : Act) → NotesAllow totals k a → InstallsOf totals a (held_at k.place).total
installs-of totals k (Install id) allow = allow.1
installs-of totals k _ allow = tt

-- ---- places from which a worker has no own cell

left-outside : (p : Place) (s : ℕ) → has_own_cell (left p) s ≡ false
left-outside (Leading t id) s = refl
left-outside _ s = refl

told-outside : (d : Shape) (t k s : ℕ) (again : Bool) → has_own_cell (told_one d (Announcing t again k)) s ≡ false
told-outside d t k s again = cond_both (eqb (k + 1) d.workers) Free (Announcing t again (k + 1)) (λ q. has_own_cell q s ≡ false) (λ h. refl) (λ h. refl)

-- its values meet `fits`; R, its ranges; the slot s, in the state X, has the holder's notes N; its cell there has x
module _ {B : Type 0} (fits : ℕ → List (ℕ × ℕ) → B → Type 0) (d : Shape) (S : ObjectState) (w s : ℕ) (R : ℕ → List (ℕ × ℕ)) (X : SlotState) (N : ℕ → Note)
    (x : Option B)
    (here : (t id : ℕ) → S.places w ≡ Inside t id → t ≡ s → (is_open X ≡ true) ⊎ (is_shut X ≡ true))
    (else_ : (t id : ℕ) → S.places w ≡ Inside t id → t ≢ s → has_id X ≡ true → id_of X ≢ id) where
  abbrev Own : Act → Place → Note → Type 0
  Own a q n = Known fits R X (has_own_cell q s) n N x → Known fits (λ id. ranges_after a q id (R id)) X (has_own_cell (moved d a q) s) (noted a w w n) N x

  own-looks : (t id : ℕ) (n : Note) → Own (LookOpen id) (Entered t) n
  own-looks t id n c = subst (λ b. Known fits R X (eqb t s) (cond b note.Kept n) N x) (sym (eq-eqb w w refl)) (cell-enters fits R X (eqb t s) n N x c)

  own-claims : (k from to t id : ℕ) (n : Note) → S.places w ≡ Inside t id → Own (ClaimRange k from to) (Inside t id) n
  own-claims k from to t id n at =
      let R' : ℕ → List (ℕ × ℕ) = λ jd. cond (eqb id jd) ((from, to) ∷ R jd) (R jd) in
      let n' : Note = cond (eqb w w) (loosened n) n in
      dite (ℕ_discrete t s)
      (λ same. subst (λ b. Known fits R X b n N x → Known fits R' X b n' N x) (sym (eq-eqb t s same))
      (λ c. subst (λ b. Known fits R' X true (cond b (loosened n) n) N x) (sym (eq-eqb w w refl)) (cell-claims fits R R' X n N x (here t id at same) c)))
      (λ other. subst (λ b. Known fits R X b n N x → Known fits R' X b n' N x) (sym (ne_eqb t s other))
      (λ c. cell-outside fits R' X n n' N x (cell-ranges fits R R' X false n N x
      (λ has. ap (λ b. cond b ((from, to) ∷ R (id_of X)) (R (id_of X))) (ne_eqb id (id_of X) (λ e. else_ t id at other has (sym e)))) c)))

  own-leaves : (p q : Place) (n : Note) → has_own_cell q s ≡ false → (has_cell p ≡ true → n ≡ note.Kept) → Known fits R X (has_own_cell p s) n N x
      → Known fits R X (has_own_cell q s) n N x
  own-leaves p q n out kept c = subst (λ b. Known fits R X b n N x) (sym out)
      (cell-leaves fits R X (has_own_cell p s) n n N x (λ h. kept (own-has p s h)) c)

  pub own-cell : (totals : ℕ → Option ℕ) (notes : ℕ → Note) (a : Act) → IsAllowed d S w a
      → NotesAllow totals (record { shape = d; worker = w; place = S.places w; notes = notes }) a → Own a (S.places w) (notes w)
  own-cell totals notes (Enter t) ok allow = subst (λ q. Own (Enter t) q (notes w)) (sym ok.0) (λ c. c)
  own-cell totals notes (LookOpen id) ok allow = subst (λ q. Own (LookOpen id) q (notes w)) (sym ok.1) (own-looks ok.0 id (notes w))
  own-cell totals notes LookInvalid ok allow = subst (λ q. Own LookInvalid q (notes w)) (sym ok.1) (λ c. c)
  own-cell totals notes LookVacant ok allow = subst (λ q. Own LookVacant q (notes w)) (sym ok.1) (λ c. c)
  own-cell totals notes (ClaimRange k from to) ok allow = subst (λ q. Own (ClaimRange k from to) q (notes w)) (sym ok.2)
      (own-claims k from to ok.0 ok.1 (notes w) ok.2)
  own-cell totals notes (ClaimUsed k) ok allow = subst (λ q. Own (ClaimUsed k) q (notes w)) (sym ok.2) (λ c. c)
  own-cell totals notes ShutWon ok allow = subst (λ q. Own ShutWon q (notes w)) (sym ok.2) (λ c. c)
  own-cell totals notes ShutLost ok allow = subst (λ q. Own ShutLost q (notes w)) (sym ok.2) (λ c. c)
  own-cell totals notes LeaveLeft ok allow = own-leaves (S.places w) (left (S.places w)) (notes w) (left-outside (S.places w) s) allow
  own-cell totals notes (LeaveOwe id) ok allow = own-leaves (S.places w) (Owing (slot_of (S.places w)) id) (notes w) refl allow
  own-cell totals notes PayLast ok allow = subst (λ q. Own PayLast q (notes w)) (sym ok.2) (cell-outside fits R X (notes w) note.Kept N x)
  own-cell totals notes PayDone ok allow = subst (λ q. Own PayDone q (notes w)) (sym ok.2) (λ c. c)
  own-cell totals notes MarkMarked ok allow = subst (λ q. Own MarkMarked q (notes w)) (sym ok.4) (λ c. c)
  own-cell totals notes MarkMissed ok allow = subst (λ q. Own MarkMissed q (notes w)) (sym ok.4) (λ c. c)
  own-cell totals notes SweepLast ok allow = subst (λ q. Own SweepLast q (notes w)) (sym ok.4) (cell-outside fits R X (notes w) note.Kept N x)
  own-cell totals notes (SweepOthers k) ok allow = subst (λ q. Own (SweepOthers k) q (notes w)) (sym ok.4) (λ c. c)
  own-cell totals notes (ReserveGot t) ok allow = subst (λ q. Own (ReserveGot t) q (notes w)) (sym ok.0) (cell-outside fits R X (notes w) note.Empty N x)
  own-cell totals notes (ReserveTaken t word) ok allow = λ c. c
  own-cell totals notes (AdmitGot q) ok allow = subst (λ q'. Own (AdmitGot q) q' (notes w)) (sym ok.2) (λ c. c)
  own-cell totals notes (AdmitLost q now) ok allow = λ c. c
  own-cell totals notes (Arrivals k) ok allow = λ c. c
  own-cell totals notes (Finished k) ok allow = λ c. c
  own-cell totals notes (NoteDone k) ok allow = subst (λ q. Own (NoteDone k) q (notes w)) (sym ok.2) (λ c. c)
  own-cell totals notes (SetTotal t) ok allow = subst (λ q. Own (SetTotal t) q (notes w)) (sym ok.2) (λ c. c)
  own-cell totals notes (Install id) ok allow = subst (λ q. Own (Install id) q (notes w)) (sym ok.2) (λ c. c)
  own-cell totals notes Release ok allow = subst (λ q. Own Release q (notes w)) (sym ok.2) (λ c. c)
  own-cell totals notes Announce ok allow = subst (λ q. Own Announce q (notes w)) (sym ok.3)
      (λ c. subst (λ b. Known fits R X b (notes w) N x) (sym (told-outside d ok.0 ok.2 s ok.1)) c)
  own-cell totals notes (TakeReturn part bits) ok allow = λ c. c
  own-cell totals notes (TakeChange part bits) ok allow = λ c. c
