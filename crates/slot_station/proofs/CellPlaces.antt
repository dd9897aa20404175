-- What places and notes say of the cells of a slot, before and after a call.
use Rattle.std.proofs.Common.{◌≡◌, ◌≢◌, ℕ, cond, refl, sym, ap, ◌∙◌, subst, eq-eqb, ne_eqb}
use mathlib.Core.Logic.{dite}
use native.Mathlib.Decide.{ℕ_discrete}
use Rattle.slot_history.specs.declared.shape.Shape.{Shape}
use Rattle.slot_history.specs.declared.act.Act.{Act}
use Rattle.slot_history.specs.declared.act.Act.TheVariants.{LookOpen, ClaimRange, PayLast}
use Rattle.slot_history.specs.declared.act.Act.TheVariants.{SweepLast, ReserveGot}
use Rattle.slot_history.specs.declared.place.Held.{Held}
use Rattle.slot_history.specs.declared.place.Place.TheVariants.{Free, Entered, Inside, Asking}
use Rattle.slot_history.specs.declared.place.Place.TheVariants.{Owing, Holding}
use Rattle.slot_history.specs.States.{ObjectState}
use Rattle.slot_history.specs.Allowed.{IsAllowed}
use Rattle.slot_history.specs.Table.{IsTable}
use Rattle.slot_history.proofs.Duties.{IsHeldBy}
use Rattle.slot_history.proofs.Holdings.{holder-place}
use Rattle.slot_station.specs.declared.note.Note.{Note}
use Rattle.slot_station.specs.Cells.{noted, notes_after}

-- no call of a worker that holds a slot changes a note
noted-held : (d : Shape) (S : ObjectState) (w : ℕ) (a : Act) (s : ℕ) (k : Held) → IsAllowed d S w a → S.places w ≡ Holding s k → (v : ℕ) (n : Note)
    → noted a w v n ≡ n
noted-held d S w (LookOpen id) s k ok at v n = absurd (let r : Holding s k ≡ Entered ok.0 = sym at ∙ ok.1 in cc)
noted-held d S w (ClaimRange m from to) s k ok at v n = absurd (let r : Holding s k ≡ Inside ok.0 ok.1 = sym at ∙ ok.2 in cc)
noted-held d S w PayLast s k ok at v n = absurd (let r : Holding s k ≡ Owing ok.0 ok.1 = sym at ∙ ok.2 in cc)
noted-held d S w SweepLast s k ok at v n = absurd (let r : Holding s k ≡ Asking ok.0 ok.1 ok.2 ok.3 = sym at ∙ ok.4 in cc)
noted-held d S w (ReserveGot t) s k ok at v n = absurd (let r : Holding s k ≡ Free = sym at ∙ ok.0 in cc)
noted-held d S w _ s k ok at v n = refl

pub note-mine : (w : ℕ) (a : Act) (N : ℕ → ℕ → Note) (v : ℕ) → notes_after w a N w v ≡ noted a w v (N w v)
note-mine w a N v = ap (λ b. cond b (noted a w v (N w v)) (N w v)) (eq-eqb w w refl)

pub note-other : (w : ℕ) (a : Act) (N : ℕ → ℕ → Note) (u v : ℕ) → u ≢ w → notes_after w a N u v ≡ N u v
note-other w a N u v other = ap (λ b. cond b (noted a u v (N u v)) (N u v)) (ne_eqb u w other)

-- the notes of whoever holds a slot before a call are the same after it
pub notes-held : (d : Shape) (S : ObjectState) (w : ℕ) (a : Act) (N : ℕ → ℕ → Note) → IsTable d S → IsAllowed d S w a
    → (s v u : ℕ) (k : Held) → IsHeldBy u k (S.slots s) → notes_after w a N u v ≡ N u v
notes-held d S w a N ok allowed s v u k held = dite (ℕ_discrete u w)
    (λ same. subst (λ t. notes_after w a N t v ≡ N t v) (sym same)
    (note-mine w a N v ∙ noted-held d S w a s k allowed (ap S.places (sym same) ∙ holder-place d S ok s u k held) v (N w v)))
    (λ other. note-other w a N u v other)
