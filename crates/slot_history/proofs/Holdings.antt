-- What a slot notes of its holder.
use Rattle.std.proofs.Common.{◌≡◌, ℕ, ◌+◌, ◌/◌, ◌<◌, ◌≤◌, List, [], ◌∷◌, Some, None, refl, sym, ap}
use Rattle.std.proofs.Common.{◌∙◌, subst, inl, inr, ⊎_elim, arith}
use Rattle.slot_history.specs.declared.shape.Shape.{Shape}
use Rattle.slot_history.specs.declared.shape.TheConstants.{STAGES, MOST_TOTAL}
use Rattle.slot_history.specs.declared.act.Act.{Act}
use Rattle.slot_history.specs.declared.act.Act.TheVariants.{ReserveGot, AdmitGot, NoteDone}
use Rattle.slot_history.specs.declared.act.Act.TheVariants.{SetTotal, Install, Release}
use Rattle.slot_history.specs.declared.act.Entry.{Entry}
use Rattle.slot_history.specs.declared.place.Held.{Held}
use Rattle.slot_history.specs.declared.place.Place.TheVariants.{Holding}
use Rattle.slot_history.specs.States.{SlotState, Empty, Reserved, Shut, Finishing, ObjectState}
use Rattle.slot_history.specs.States.{slot_of}
use Rattle.slot_history.specs.Steps.{site, slot_after, claimed, shut_by, ended, finalised_by}
use Rattle.slot_history.specs.Steps.{held_on, opened, next, state_after}
use Rattle.slot_history.specs.Allowed.{IsAllowed}
use Rattle.slot_history.specs.Histories.{IsLegal}
use Rattle.slot_history.specs.Table.{duty_of, Meets, IsChainOf, IsTable}
use Rattle.slot_history.specs.Bounds.{IsReservation, IsFinalisation, IsSlotSound, AreSlotsSound}
use Rattle.slot_history.proofs.Sets.{upd-cases}
use Rattle.slot_history.proofs.Duties.{IsHeldBy, held-mine, holding-holds, holds-slot}
use Rattle.slot_history.proofs.Table.{table}
use Rattle.slot_history.proofs.SlotSteps.{after-others}

-- the slot of a holder has what its place has
pub holder-slot : (d : Shape) (S : ObjectState) → IsTable d S → (w s : ℕ) (h : Held) → w < d.workers → S.places w ≡ Holding s h → IsHeldBy w h (S.slots s)
holder-slot d S tab w s h low at = holds-slot (S.slots s) w h
    (holding-holds d s h (duty_of (S.slots s) w) (subst (Meets d s (duty_of (S.slots s) w)) at (tab.duty s w low)))

-- and whoever holds a slot, by its state, is a worker that is there
pub holder-place : (d : Shape) (S : ObjectState) → IsTable d S → (s u : ℕ) (h : Held) → IsHeldBy u h (S.slots s) → S.places u ≡ Holding s h
holder-place d S tab s u h (inl is) =
    let low : u < d.workers = subst (IsChainOf d) is (tab.chain s) in
    subst (λ D. Meets d s D (S.places u)) (ap (λ x. duty_of x u) is ∙ held-mine h u) (tab.duty s u low)
holder-place d S tab s u h (inr (id, is)) =
    let low : u < d.workers = subst (IsChainOf d) is (tab.chain s) in
    subst (λ D. Meets d s D (S.places u)) (ap (λ x. duty_of x u) is ∙ held-mine h u) (tab.duty s u low)

-- ---- soundness of a slot

sound-claimed : (x : SlotState) (n : ℕ) → IsSlotSound x → IsSlotSound (claimed x n)
sound-claimed Empty n h = h
sound-claimed _ n h = h

sound-shut : (x : SlotState) (w : ℕ) → IsSlotSound x → IsSlotSound (shut_by w x)
sound-shut Empty w h = h
sound-shut _ w h = h

sound-ended : (d : Shape) (w : ℕ) (a : Act) (x : SlotState) → IsSlotSound x → IsSlotSound (ended d w a x)
sound-ended d w a Empty h = h
sound-ended d w a _ h = h

sound-last : (x : SlotState) (w : ℕ) → IsSlotSound x → IsSlotSound (finalised_by w x)
sound-last (Shut t e) w h = record { query = refl; stage = refl; again = refl; noted = omega arith; total = omega arith }
sound-last _ w h = h

-- a holder that admits, notes or sets a total
sound-admitted : (x : SlotState) (w q : ℕ) (h : Held) → h.query ≡ None → IsHeldBy w h x → IsSlotSound x → IsSlotSound (held_on (AdmitGot q) x)
sound-admitted x w q h none how ok = ⊎_elim
    (λ e. let k : IsReservation h = subst IsSlotSound e ok in subst
    (λ y. IsSlotSound (held_on (AdmitGot q) y)) (sym e) (record { again = k.again; stage = k.stage; noted = k.noted; total = k.total }))
    (λ r. let k : IsFinalisation r.0 h = subst IsSlotSound r.1 ok in absurd (let f : None ≡ Some (r.0 / STAGES) = sym none ∙ k.query in cc)) how

sound-noted : (x : SlotState) (n : ℕ) → n ≤ STAGES → IsSlotSound x → IsSlotSound (held_on (NoteDone n) x)
sound-noted (Reserved w h) n most k = record { again = k.again; stage = k.stage; noted = most; total = k.total }
sound-noted (Finishing id w h) n most k = record { query = k.query; stage = k.stage; again = k.again; noted = most; total = k.total }
sound-noted _ n most k = k

sound-total : (x : SlotState) (t : ℕ) → t ≤ MOST_TOTAL → IsSlotSound x → IsSlotSound (held_on (SetTotal t) x)
sound-total (Reserved w h) t most k = record { again = k.again; stage = k.stage; noted = k.noted; total = most }
sound-total (Finishing id w h) t most k = record { query = k.query; stage = k.stage; again = k.again; noted = k.noted; total = most }
sound-total _ t most k = k

sound-opened : (x : SlotState) (id : ℕ) → IsSlotSound x → IsSlotSound (opened id x)
sound-opened (Reserved w h) id k = k.total
sound-opened (Finishing jd w h) id k = k.total
sound-opened _ id k = k

sound-after : (d : Shape) (S : ObjectState) (w : ℕ) (a : Act) → w < d.workers → IsTable d S → IsAllowed d S w a → IsSlotSound (S.slots (site a (S.places w)))
    → IsSlotSound (slot_after d w a (S.slots (site a (S.places w))))
sound-after d S w (ReserveGot s) low tab ok = λ k. record { again = refl; stage = refl; noted = omega arith; total = omega arith }
sound-after d S w (AdmitGot q) low tab ok = let at : ok.0 ≡ slot_of (S.places w) = sym (ap slot_of ok.2) in
    subst (λ j. IsSlotSound (S.slots j) → IsSlotSound (held_on (AdmitGot q) (S.slots j))) at
    (sound-admitted (S.slots ok.0) w q ok.1 ok.3 (holder-slot d S tab w ok.0 ok.1 low ok.2))
sound-after d S w (NoteDone n) low tab ok = sound-noted (S.slots (slot_of (S.places w))) n (let k : ok.1.stage + n ≤ STAGES = ok.6 in omega arith)
sound-after d S w (SetTotal t) low tab ok = sound-total (S.slots (slot_of (S.places w))) t ok.4
sound-after d S w (Install id) low tab ok = sound-opened (S.slots (slot_of (S.places w))) id
sound-after d S w Release low tab ok = λ k. tt
sound-after d S w a low tab ok = after-others d w (λ x y. IsSlotSound x → IsSlotSound y) (λ x k. k) sound-claimed (λ x. sound-shut x w)
    (λ x. sound-last x w) (sound-ended d w) a refl (S.slots (site a (S.places w)))

pub sound-next : (d : Shape) (S : ObjectState) (w : ℕ) (a : Act) → w < d.workers → IsTable d S → AreSlotsSound d S → IsAllowed d S w a
    → AreSlotsSound d (next d S w a)
sound-next d S w a low tab ok fine s = let k : ℕ = site a (S.places w) in
    upd-cases S.slots k (slot_after d w a (S.slots k)) s IsSlotSound (λ e. sound-after d S w a low tab fine (ok k)) (λ n. ok s)

pub slots-sound : (d : Shape) (h : List Entry) → IsLegal d h → AreSlotsSound d (state_after d h)
slots-sound d [] legal = λ s. tt
slots-sound d (e ∷ es) legal = sound-next d (state_after d es) e.worker e.act legal.0 (table d es legal.2) (slots-sound d es legal.2) legal.1
