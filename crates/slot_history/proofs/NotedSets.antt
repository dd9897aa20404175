-- How many task sets can be noted as done. It rules out a holder that notes a stage twice.
use Rattle.std.proofs.Common.{◌≡◌, ℕ, ◌+◌, ◌-◌, ◌*◌, ◌/◌, ◌%◌, ◌<◌, ◌≤◌, true, cond, List, [], ◌∷◌}
use Rattle.std.proofs.Common.{refl, sym, ap, ap₂, ◌∙◌, subst, ⊎_elim, arith}
use Rattle.std.specs.Prelude.{is_some, unwrap_or, IsSome}
use Rattle.slot_history.specs.declared.shape.Shape.{Shape}
use Rattle.slot_history.specs.declared.shape.TheConstants.{STAGES}
use Rattle.slot_history.specs.declared.act.Act.{Act}
use Rattle.slot_history.specs.declared.act.Act.TheVariants.{ClaimRange, ClaimUsed, ShutWon, PayLast}
use Rattle.slot_history.specs.declared.act.Act.TheVariants.{PayDone, MarkMarked, MarkMissed}
use Rattle.slot_history.specs.declared.act.Act.TheVariants.{SweepLast, SweepOthers, ReserveGot}
use Rattle.slot_history.specs.declared.act.Act.TheVariants.{AdmitGot, NoteDone, SetTotal, Install}
use Rattle.slot_history.specs.declared.act.Act.TheVariants.{Release}
use Rattle.slot_history.specs.declared.act.Entry.{Entry}
use Rattle.slot_history.specs.declared.place.Held.{Held}
use Rattle.slot_history.specs.Sets.{upd, sum_below}
use Rattle.slot_history.specs.States.{SlotState, Empty, Reserved, Open, Shut, Finishing}
use Rattle.slot_history.specs.States.{ObjectState, slot_of, next_id, is_empty}
use Rattle.slot_history.specs.Steps.{site, slot_after, claimed, shut_by, ended, finalised_by}
use Rattle.slot_history.specs.Steps.{held_on, opened, admitted_after, finished_after, next}
use Rattle.slot_history.specs.Steps.{state_after}
use Rattle.slot_history.specs.Allowed.{IsAllowed, IsReady}
use Rattle.slot_history.specs.Histories.{IsLegal}
use Rattle.slot_history.specs.Table.{IsTable}
use Rattle.slot_history.specs.Bounds.{IsReservation, IsFinalisation, IsSlotSound, AreSlotsSound}
use Rattle.slot_history.specs.Bounds.{note_room, IsFinishedBound, IsWithin}
use Rattle.slot_history.proofs.Duties.{IsHeldBy}
use Rattle.slot_history.proofs.Sets.{upd-same, upd-else, sum-change, sum-zero}
use Rattle.slot_history.proofs.Table.{table}
use Rattle.slot_history.proofs.Within.{within}
use Rattle.slot_history.proofs.Holdings.{holder-slot, slots-sound}

-- ---- how many task sets are noted as done

room-claimed : (x : SlotState) (n : ℕ) → note_room (claimed x n) ≡ note_room x
room-claimed Empty n = refl
room-claimed _ n = refl

room-shut : (x : SlotState) (w : ℕ) → note_room (shut_by w x) ≡ note_room x
room-shut Empty w = refl
room-shut _ w = refl

room-ended : (d : Shape) (w : ℕ) (a : Act) (x : SlotState) → note_room (ended d w a x) ≡ note_room x
room-ended d w a Empty = refl
room-ended d w a _ = refl

room-last : (x : SlotState) (w : ℕ) → note_room (finalised_by w x) ≡ note_room x
room-last (Shut t e) w = let r : STAGES * (STAGES - t.id % STAGES) - 0 ≡ STAGES * (STAGES - t.id % STAGES) = omega arith in r
room-last _ w = refl

room-total : (x : SlotState) (t : ℕ) → note_room (held_on (SetTotal t) x) ≡ note_room x
room-total Empty t = refl
room-total _ t = refl

room-admitted : (x : SlotState) (q : ℕ) → note_room (held_on (AdmitGot q) x) ≤ note_room x + STAGES * (STAGES + 1)
room-admitted Empty q = omega arith
room-admitted (Reserved u h) q = let r : STAGES * (STAGES + 1) - h.noted ≤ note_room (Reserved u h) + STAGES * (STAGES + 1) = omega arith in r
room-admitted (Open t) q = let r : note_room (Open t) ≤ note_room (Open t) + STAGES * (STAGES + 1) = omega arith in r
room-admitted (Shut t e) q = let r : note_room (Shut t e) ≤ note_room (Shut t e) + STAGES * (STAGES + 1) = omega arith in r
room-admitted (Finishing id u h) q = let r : note_room (Finishing id u h) ≤ note_room (Finishing id u h) + STAGES * (STAGES + 1) = omega arith in r

room-noted : (x : SlotState) (w n : ℕ) (h : Held) → IsSome h.query → h.noted ≡ 0 → h.stage + n ≤ STAGES → IsHeldBy w h x → IsSlotSound x
    → n + note_room (held_on (NoteDone n) x) ≤ note_room x
room-noted x w n h some_query fresh most how ok = ⊎_elim
    (λ e. subst (λ y. n + note_room (held_on (NoteDone n) y) ≤ note_room y) (sym e)
    (let a : cond {A = ℕ} (is_some h.query) (STAGES * (STAGES + 1) - n) 0 ≡ STAGES * (STAGES + 1) - n = ap
    (λ b. cond b (STAGES * (STAGES + 1) - n) 0) some_query in
    let b : cond {A = ℕ} (is_some h.query) (STAGES * (STAGES + 1) - h.noted) 0 ≡ STAGES * (STAGES + 1) - h.noted = ap
    (λ b. cond b (STAGES * (STAGES + 1) - h.noted) 0) some_query in
    let z : h.noted ≡ 0 = fresh in
    let r : n + cond {A = ℕ} (is_some h.query) (STAGES * (STAGES + 1) - n) 0 ≤ cond {A = ℕ} (is_some h.query) (STAGES * (STAGES + 1) - h.noted) 0 =
    omega arith in r))
    (λ r. subst (λ y. n + note_room (held_on (NoteDone n) y) ≤ note_room y) (sym r.1)
    (let k : IsFinalisation r.0 h = subst IsSlotSound r.1 ok in
    let id : ℕ = r.0 in
    let s : h.stage ≡ id % STAGES = k.stage in
    let z : h.noted ≡ 0 = fresh in
    let i : n + (STAGES * (STAGES - id % STAGES) - n) ≤ STAGES * (STAGES - id % STAGES) - h.noted = omega arith in i)) how

room-opened : (x : SlotState) (w id : ℕ) (h : Held) → IsReady h → id ≡ next_id h → IsHeldBy w h x → IsSlotSound x → note_room (opened id x) ≤ note_room x
room-opened x w id h ready next_one how ok = ⊎_elim
    (λ e. subst (λ y. note_room (opened id y) ≤ note_room y) (sym e)
    (let k : IsReservation h = subst IsSlotSound e ok in
    let b : cond {A = ℕ} (is_some h.query) (STAGES * (STAGES + 1) - h.noted) 0 ≡ STAGES * (STAGES + 1) - h.noted = ap
    (λ b. cond b (STAGES * (STAGES + 1) - h.noted) 0) ready.has_query in
    let m : h.noted ≤ STAGES = k.noted in
    let r : STAGES * (STAGES - id % STAGES) ≤ cond {A = ℕ} (is_some h.query) (STAGES * (STAGES + 1) - h.noted) 0 = omega arith in r))
    (λ r. subst (λ y. note_room (opened id y) ≤ note_room y) (sym r.1)
    (let k : IsFinalisation r.0 h = subst IsSlotSound r.1 ok in
    let jd : ℕ = r.0 in
    let m = ready.next_stage k.again in
    let one : h.noted ≡ 1 = m.0 in
    let last : h.stage + 1 < STAGES = m.1 in
    let s : h.stage ≡ jd % STAGES = k.stage in
    let is : id ≡ STAGES * (jd / STAGES) + (h.stage + 1) = next_one ∙ ap₂
    (λ q b. STAGES * q + b) (ap (λ o. unwrap_or o 0) k.query) (ap (λ b. cond b (h.stage + 1) 0) k.again) in
    let i : STAGES * (STAGES - id % STAGES) ≤ STAGES * (STAGES - jd % STAGES) - h.noted = omega arith in i)) how

-- what the slot of the call gains, the number of admitted queries pays for
abbrev Pays : Shape → ObjectState → ℕ → Act → Type 0
Pays d S w a = let x = S.slots (site a (S.places w)) in IsSlotSound x →
    finished_after a S.finished + note_room (slot_after d w a x) + STAGES * (STAGES + 1) * S.admitted ≤ S.finished + note_room x + STAGES *
    (STAGES + 1) * admitted_after a S.admitted

pays-same : (x y f m : ℕ) → y ≤ x → f + y + STAGES * (STAGES + 1) * m ≤ f + x + STAGES * (STAGES + 1) * m
pays-same x y f m h = omega arith

pays : (d : Shape) (S : ObjectState) (w : ℕ) (a : Act) → w < d.workers → IsTable d S → IsAllowed d S w a → Pays d S w a
pays d S w (ClaimRange n from to) low tab ok = λ k. let x : SlotState = S.slots (slot_of (S.places w)) in let e : note_room (claimed x n) ≡ note_room x =
    room-claimed x n in pays-same (note_room x) (note_room (claimed x n)) S.finished S.admitted (omega arith)
pays d S w (ClaimUsed n) low tab ok = λ k. let x : SlotState = S.slots (slot_of (S.places w)) in let e : note_room (claimed x n) ≡ note_room x =
    room-claimed x n in pays-same (note_room x) (note_room (claimed x n)) S.finished S.admitted (omega arith)
pays d S w ShutWon low tab ok = λ k. let x : SlotState = S.slots (slot_of (S.places w)) in let e : note_room (shut_by w x) ≡ note_room x = room-shut x w in
    pays-same (note_room x) (note_room (shut_by w x)) S.finished S.admitted (omega arith)
pays d S w PayLast low tab ok = λ k. let x : SlotState = S.slots (slot_of (S.places w)) in let e : note_room (finalised_by w x) ≡ note_room x =
    room-last x w in pays-same (note_room x) (note_room (finalised_by w x)) S.finished S.admitted (omega arith)
pays d S w SweepLast low tab ok = λ k. let x : SlotState = S.slots (slot_of (S.places w)) in let e : note_room (finalised_by w x) ≡ note_room x =
    room-last x w in pays-same (note_room x) (note_room (finalised_by w x)) S.finished S.admitted (omega arith)
pays d S w PayDone low tab ok = λ k. let x : SlotState = S.slots (slot_of (S.places w)) in let e : note_room (ended d w PayDone x) ≡ note_room x =
    room-ended d w PayDone x in pays-same (note_room x) (note_room (ended d w PayDone x)) S.finished S.admitted (omega arith)
pays d S w MarkMarked low tab ok = λ k. let x : SlotState = S.slots (slot_of (S.places w)) in let e : note_room (ended d w MarkMarked x) ≡ note_room x =
    room-ended d w MarkMarked x in pays-same (note_room x) (note_room (ended d w MarkMarked x)) S.finished S.admitted (omega arith)
pays d S w MarkMissed low tab ok = λ k. let x : SlotState = S.slots (slot_of (S.places w)) in let e : note_room (ended d w MarkMissed x) ≡ note_room x =
    room-ended d w MarkMissed x in pays-same (note_room x) (note_room (ended d w MarkMissed x)) S.finished S.admitted (omega arith)
pays d S w (SweepOthers n) low tab ok = λ k. let x : SlotState = S.slots (slot_of (S.places w)) in
    let e : note_room (ended d w (SweepOthers n) x) ≡ note_room x = room-ended d w (SweepOthers n) x in
    pays-same (note_room x) (note_room (ended d w (SweepOthers n) x)) S.finished S.admitted (omega arith)
pays d S w (ReserveGot s) low tab ok = λ k. pays-same (note_room (S.slots s)) 0 S.finished S.admitted (omega arith)
pays d S w (AdmitGot q) low tab ok = λ k. let x : SlotState = S.slots (slot_of (S.places w)) in let y : ℕ = note_room (held_on (AdmitGot q) x) in
    let f : ℕ = S.finished in let m : ℕ = S.admitted in let z : ℕ = note_room x in
    let e : y ≤ z + STAGES * (STAGES + 1) = room-admitted x q in let r : f + y + STAGES * (STAGES + 1) * m ≤ f + z + STAGES * (STAGES + 1) * (m + 1) =
    omega arith in r
pays d S w (NoteDone n) low tab ok = let at : ok.0 ≡ slot_of (S.places w) = sym (ap slot_of ok.2) in
    subst (λ j. IsSlotSound (S.slots j) → S.finished + n + note_room (held_on (NoteDone n) (S.slots j)) + STAGES *
    (STAGES + 1) * S.admitted ≤ S.finished + note_room (S.slots j) + STAGES * (STAGES + 1) * S.admitted) at
    (λ k. let y : ℕ = note_room (held_on (NoteDone n) (S.slots ok.0)) in let z : ℕ = note_room (S.slots ok.0) in let f : ℕ = S.finished in
    let m : ℕ = S.admitted in
    let e : n + y ≤ z = room-noted (S.slots ok.0) w n ok.1 ok.3 ok.4 ok.6 (holder-slot d S tab w ok.0 ok.1 low ok.2) k in
    let r : f + n + y + STAGES * (STAGES + 1) * m ≤ f + z + STAGES * (STAGES + 1) * m = omega arith in r)
pays d S w (SetTotal t) low tab ok = λ k. let x : SlotState = S.slots (slot_of (S.places w)) in let e : note_room (held_on (SetTotal t) x) ≡ note_room x =
    room-total x t in pays-same (note_room x) (note_room (held_on (SetTotal t) x)) S.finished S.admitted (omega arith)
pays d S w (Install id) low tab ok = let at : ok.0 ≡ slot_of (S.places w) = sym (ap slot_of ok.2) in
    subst (λ j. IsSlotSound (S.slots j) → S.finished + note_room (opened id (S.slots j)) + STAGES * (STAGES + 1) * S.admitted ≤ S.finished + note_room
    (S.slots j) + STAGES * (STAGES + 1) * S.admitted) at
    (λ k. pays-same (note_room (S.slots ok.0)) (note_room (opened id (S.slots ok.0))) S.finished S.admitted
    (room-opened (S.slots ok.0) w id ok.1 ok.3 ok.4 (holder-slot d S tab w ok.0 ok.1 low ok.2) k))
pays d S w Release low tab ok = λ k. pays-same (note_room (S.slots (slot_of (S.places w)))) 0 S.finished S.admitted (omega arith)
pays d S w a low tab ok = λ k. pays-same (note_room (S.slots (site a (S.places w)))) (note_room (S.slots (site a (S.places w)))) S.finished S.admitted
    (omega arith)

room-empty : (x : SlotState) → is_empty x ≡ true → note_room x ≡ 0
room-empty Empty h = refl
room-empty _ h = absurd (cc)

pub finished-next : (d : Shape) (S : ObjectState) (w : ℕ) (a : Act) → w < d.workers → IsTable d S → IsWithin d S → AreSlotsSound d S → IsFinishedBound d S
    → IsAllowed d S w a → IsFinishedBound d (next d S w a)
finished-next d S w a low tab near sound ok fine =
    let k : ℕ = site a (S.places w) in
    let x : SlotState = S.slots k in
    let y : SlotState = slot_after d w a x in
    let f : ℕ → ℕ = λ s. note_room (S.slots s) in
    let g : ℕ → ℕ = λ s. note_room (upd S.slots k y s) in
    let change : sum_below d.slots g + f k ≤ sum_below d.slots f + g k = sum-change d.slots k f g (λ s n. ap note_room (upd-else S.slots k y s n))
    (λ past. room-empty x (near.slots k past)) in
    let here : g k ≡ note_room y = ap note_room (upd-same S.slots k y) in
    let paid : finished_after a S.finished + note_room y + STAGES * (STAGES + 1) * S.admitted ≤ S.finished + note_room x + STAGES *
    (STAGES + 1) * admitted_after a S.admitted = pays d S w a low tab fine (sound k) in
    let before : S.finished + sum_below d.slots f ≤ STAGES * (STAGES + 1) * S.admitted = ok in
    let after : finished_after a S.finished + sum_below d.slots g ≤ STAGES * (STAGES + 1) * admitted_after a S.admitted = omega arith in after

pub finished-bound : (d : Shape) (h : List Entry) → IsLegal d h → IsFinishedBound d (state_after d h)
finished-bound d [] legal = let z : sum_below d.slots (λ s. 0) ≡ 0 = sum-zero d.slots in let r : 0 + sum_below d.slots (λ s. 0) ≤ STAGES * (STAGES + 1) * 0 =
    omega arith in r
finished-bound d (e ∷ es) legal = finished-next d (state_after d es) e.worker e.act legal.0 (table d es legal.2) (within d es legal.2)
    (slots-sound d es legal.2) (finished-bound d es legal.2) legal.1
