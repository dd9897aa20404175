-- The table of places holds in every state of every legal history. It rules out a sweep before the last worker was asked,
-- a mark that carries no id, a leave that forgets the debt, and a shut that two workers win: after each of these a worker
-- would be at a place that its duty to the slot does not allow.
use Rattle.std.proofs.Common.{◌≡◌, ◌≢◌, ℕ, ◌<◌, ◌⊎◌, true, List, [], ◌∷◌, refl, sym, ap, ◌∙◌, subst}
use Rattle.std.proofs.Common.{inl, inr, ⊎_elim}
use mathlib.Core.Bool.{true≢false}
use Rattle.slot_history.specs.declared.shape.Shape.{Shape}
use Rattle.slot_history.specs.declared.act.Act.{Act}
use Rattle.slot_history.specs.declared.act.Act.TheVariants.{Enter, LookInvalid, LookVacant}
use Rattle.slot_history.specs.declared.act.Act.TheVariants.{LeaveLeft, PayDone, MarkMarked}
use Rattle.slot_history.specs.declared.act.Act.TheVariants.{MarkMissed, SweepOthers, ReserveGot}
use Rattle.slot_history.specs.declared.act.Act.TheVariants.{ReserveTaken, AdmitGot, NoteDone}
use Rattle.slot_history.specs.declared.act.Act.TheVariants.{SetTotal, Install, Release, Announce}
use Rattle.slot_history.specs.declared.act.Entry.{Entry}
use Rattle.slot_history.specs.declared.place.Place.{Place}
use Rattle.slot_history.specs.declared.place.Place.TheVariants.{Free, Leading, Asking, Holding}
use Rattle.slot_history.specs.declared.place.Place.TheVariants.{Announcing}
use Rattle.slot_history.specs.Sets.{upd}
use Rattle.slot_history.specs.States.{SlotState, ObjectState, slot_of}
use Rattle.slot_history.specs.Steps.{site, moved, left, told_one, slot_after, asked_one}
use Rattle.slot_history.specs.Steps.{holding_after, next, state_after}
use Rattle.slot_history.specs.Allowed.{IsAllowed}
use Rattle.slot_history.specs.Histories.{IsLegal}
use Rattle.slot_history.specs.Table.{Duty, Visits, Works, Unasked, Owes, Leads, Holds, duty_of}
use Rattle.slot_history.specs.Table.{binds, stays, IsLeading, Meets, IsChainOf, IsTable}
use Rattle.slot_history.proofs.Sets.{upd-cases}
use Rattle.slot_history.proofs.OwnDuty.{told-loose, mine}
use Rattle.slot_history.proofs.OtherDuties.{theirs}
use Rattle.slot_history.proofs.Endings.{chains}

-- ---- moves away from a slot

-- a worker that is free or at another slot may be anywhere but tied to this one
away : (d : Shape) (s : ℕ) (D : Duty) (p q : Place) → (p ≡ Free) ⊎ (slot_of p ≢ s) → (binds q ≡ true → slot_of q ≢ s) → Meets d s D p → Meets d s D q
away d s Visits p q far loose m = loose
away d s (Works id) p q far loose m = λ b e. absurd (loose b e)
away d s (Unasked id) p q far loose m = λ b e. absurd (loose b e)
away d s (Owes id) p q far loose m = absurd (⊎_elim (λ e. true≢false (sym m.1 ∙ ap stays e)) (λ n. n m.0) far)
away d s (Leads id e) p q far loose m = absurd (⊎_elim (λ f. subst (IsLeading d e) f m.2) (λ n. n m.0) far)
away d s (Holds h) p q far loose m = absurd (⊎_elim (λ e. let r : Holding s h ≡ Free = sym m ∙ e in absurd (cc)) (λ n. n (ap slot_of m)) far)

-- ---- the whole table

-- at another slot than that of the call, its worker was free or at its own slot, and is so afterwards
elsewhere : (d : Shape) (S : ObjectState) (w : ℕ) (a : Act) → IsAllowed d S w a → (s : ℕ) → s ≢ site a (S.places w) → (S.places w ≡ Free)
    ⊎ (slot_of (S.places w) ≢ s)
elsewhere d S w (Enter t) ok s far = inl ok.0
elsewhere d S w (ReserveGot t) ok s far = inl ok.0
elsewhere d S w (ReserveTaken t word) ok s far = inl ok.0
elsewhere d S w _ ok s far = inr (λ e. far (sym e))

asked-slot : (p : Place) (k : ℕ) → slot_of (asked_one p k) ≡ slot_of p
asked-slot (Asking s id n m) k = refl
asked-slot _ k = refl

held-slot : (a : Act) (p : Place) → slot_of (holding_after a p) ≡ slot_of p
held-slot a (Holding s h) = refl
held-slot a _ = refl

left-slot : (p : Place) → binds (left p) ≡ true → slot_of (left p) ≡ slot_of p
left-slot (Leading s id) b = refl
left-slot _ b = absurd (cc)

told-slot : (d : Shape) (p : Place) → binds (told_one d p) ≡ true → slot_of (told_one d p) ≡ slot_of p
told-slot d (Announcing s again k) b = absurd (true≢false (sym b ∙ told-loose d s again k))
told-slot d _ b = refl

-- the place after a call is tied to no slot but that of the call
pub moved-slot : (d : Shape) (S : ObjectState) (w : ℕ) (a : Act) → IsAllowed d S w a → binds (moved d a (S.places w)) ≡ true
    → slot_of (moved d a (S.places w)) ≡ site a (S.places w)
moved-slot d S w (Enter s) ok b = absurd (cc)
moved-slot d S w LookInvalid ok b = absurd (cc)
moved-slot d S w LookVacant ok b = absurd (cc)
moved-slot d S w LeaveLeft ok b = left-slot (S.places w) b
moved-slot d S w PayDone ok b = absurd (cc)
moved-slot d S w MarkMarked ok b = asked-slot (S.places w) 1
moved-slot d S w MarkMissed ok b = asked-slot (S.places w) 0
moved-slot d S w (SweepOthers n) ok b = absurd (cc)
moved-slot d S w (ReserveTaken s word) ok b = absurd (true≢false (sym b ∙ ap binds ok.0))
moved-slot d S w (AdmitGot q) ok b = held-slot (AdmitGot q) (S.places w)
moved-slot d S w (NoteDone k) ok b = held-slot (NoteDone k) (S.places w)
moved-slot d S w (SetTotal t) ok b = held-slot (SetTotal t) (S.places w)
moved-slot d S w (Install id) ok b = absurd (cc)
moved-slot d S w Release ok b = absurd (cc)
moved-slot d S w Announce ok b = told-slot d (S.places w) b
moved-slot d S w _ ok b = refl

pub table-next : (d : Shape) (S : ObjectState) (w : ℕ) (a : Act) → w < d.workers → IsTable d S → IsAllowed d S w a → IsTable d (next d S w a)
table-next d S w a low ok fine =
    let p : Place = S.places w in
    let k : ℕ = site a p in
    let x : SlotState = S.slots k in
    let y : SlotState = slot_after d w a x in
    let q : Place = moved d a p in record {
      chain = λ s. upd-cases S.slots k y s (IsChainOf d) (λ e. chains d S w a low fine (ok.chain k) (ok.duty k w low)) (λ n. ok.chain s);
      duty = λ s v within. upd-cases S.slots k y s (λ z. Meets d s (duty_of z v) (upd S.places w q v))
          (λ e. subst (λ j. Meets d j (duty_of y v) (upd S.places w q v)) (sym e) (upd-cases S.places w q v (Meets d k (duty_of y v))
          (λ i. subst (λ u. Meets d k (duty_of y u) q) (sym i) (mine d S w a low fine (ok.chain k) (ok.duty k w low)))
          (λ n. theirs d S w a v within n fine (ok.chain k) (ok.duty k w low) (ok.duty k v within))))
          (λ far. upd-cases S.places w q v (Meets d s (duty_of (S.slots s) v))
          (λ i. subst (λ u. Meets d s (duty_of (S.slots s) u) q) (sym i)
          (away d s (duty_of (S.slots s) w) p q (elsewhere d S w a fine s far) (λ b j. far (sym j ∙ moved-slot d S w a fine b)) (ok.duty s w low)))
          (λ n. ok.duty s v within));
    }

pub table : (d : Shape) (h : List Entry) → IsLegal d h → IsTable d (state_after d h)
table d [] legal = record { chain = λ s. tt; duty = λ s v low b. absurd (cc) }
table d (e ∷ es) legal = table-next d (state_after d es) e.worker e.act legal.0 (table d es legal.2) legal.1
