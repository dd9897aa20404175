-- The worker of a call meets its duty to the slot of the call.
use Rattle.std.proofs.Common.{◌≡◌, ◌≢◌, ℕ, ◌+◌, ◌<◌, Bool, true, false, eqb, refl, sym, ap, ◌∙◌}
use Rattle.std.proofs.Common.{subst, ⊎_elim, add-zero, arith}
use mathlib.Core.Bool.{true≢false}
use Rattle.std.proofs.lemmas.Bool.{cond_both, false_from_ne_true}
use Rattle.slot_history.specs.declared.shape.Shape.{Shape}
use Rattle.slot_history.specs.declared.act.Act.{Act}
use Rattle.slot_history.specs.declared.act.Act.TheVariants.{Enter, LookOpen, LookInvalid}
use Rattle.slot_history.specs.declared.act.Act.TheVariants.{LookVacant, ClaimRange, ClaimUsed}
use Rattle.slot_history.specs.declared.act.Act.TheVariants.{ShutWon, ShutLost, LeaveLeft, LeaveOwe}
use Rattle.slot_history.specs.declared.act.Act.TheVariants.{PayLast, PayDone, MarkMarked}
use Rattle.slot_history.specs.declared.act.Act.TheVariants.{MarkMissed, SweepLast, SweepOthers}
use Rattle.slot_history.specs.declared.act.Act.TheVariants.{ReserveGot, ReserveTaken, AdmitGot}
use Rattle.slot_history.specs.declared.act.Act.TheVariants.{AdmitLost, Arrivals, Finished, NoteDone}
use Rattle.slot_history.specs.declared.act.Act.TheVariants.{SetTotal, Install, Release, Announce}
use Rattle.slot_history.specs.declared.act.Act.TheVariants.{TakeReturn, TakeChange}
use Rattle.slot_history.specs.declared.place.Held.{Held}
use Rattle.slot_history.specs.declared.place.Place.{Place}
use Rattle.slot_history.specs.declared.place.Place.TheVariants.{Free, Entered, Astray, Inside, Used}
use Rattle.slot_history.specs.declared.place.Place.TheVariants.{Behind, Leading, Asking, Owing}
use Rattle.slot_history.specs.declared.place.Place.TheVariants.{Holding, Announcing}
use Rattle.slot_history.specs.Sets.{upd, count_of}
use Rattle.slot_history.specs.States.{TaskSet, Ending, SlotState, Empty, Open, Shut, ObjectState}
use Rattle.slot_history.specs.States.{slot_of, id_of, is_open, is_shut, owes, can_leave}
use Rattle.slot_history.specs.States.{reservation, finalisation}
use Rattle.slot_history.specs.Steps.{site, moved, left, told_one, slot_after, held_after, claimed}
use Rattle.slot_history.specs.Steps.{shut_by, first_ending, next_asked, ending_after, ended}
use Rattle.slot_history.specs.Steps.{finalised_by, held_on, opened}
use Rattle.slot_history.specs.Allowed.{IsAllowed}
use Rattle.slot_history.specs.Table.{Duty, Visits, Works, Unasked, Owes, Leads, Holds, duty_of}
use Rattle.slot_history.specs.Table.{binds, nth_other, HasAsked, IsLeading, Meets, IsChain}
use Rattle.slot_history.specs.Table.{IsChainOf}
use Rattle.slot_history.proofs.Sets.{count-none, count-more}
use Rattle.slot_history.proofs.Others.{asked-none, asked-more, next-is, next-unasked}
use Rattle.slot_history.proofs.Others.{nth-other-within}
use Rattle.slot_history.proofs.Duties.{paid-clear, end-cases, end-rests, end-leads, end-clear}
use Rattle.slot_history.proofs.Duties.{held-mine, owes-duty, not-owes, asking-leads, leading-leads}
use Rattle.slot_history.proofs.Duties.{owing-owes, holding-holds, leads-slot, owes-slot, holds-slot}

-- ---- moves that keep any duty to the slot

-- to the slot that was entered
enters : (d : Shape) (s : ℕ) (D : Duty) → Meets d s D Free → Meets d s D (Entered s)
enters d s (Owes id) m = let r = m.1 in absurd (cc)
enters d s (Leads id e) m = absurd m.2
enters d s (Holds h) m = absurd (cc)
enters d s _ m = λ b. absurd (cc)

strays : (d : Shape) (s : ℕ) (D : Duty) → Meets d s D (Entered s) → Meets d s D (Astray s)
strays d s (Owes id) m = (refl, refl, λ b. absurd (cc))
strays d s (Leads id e) m = absurd m.2
strays d s (Holds h) m = absurd (cc)
strays d s _ m = λ b. absurd (cc)

uses : (d : Shape) (s id : ℕ) (D : Duty) → Meets d s D (Inside s id) → Meets d s D (Used s id)
uses d s id Visits m = m
uses d s id (Works jd) m = λ b e. (refl, (m refl refl).1)
uses d s id (Unasked jd) m = λ b e. (refl, (m refl refl).1)
uses d s id (Owes jd) m = (refl, refl, m.2)
uses d s id (Leads jd e) m = absurd m.2
uses d s id (Holds h) m = absurd (cc)

-- behind, at a slot that is shut, and so has no duty to work
falls_behind : (d : Shape) (s id : ℕ) (D : Duty) → ((jd : ℕ) → D ≢ Works jd) → Meets d s D (Used s id) → Meets d s D (Behind s id)
falls_behind d s id Visits shut m = m
falls_behind d s id (Works jd) shut m = absurd (shut jd refl)
falls_behind d s id (Unasked jd) shut m = λ b e. (refl, (m refl refl).1)
falls_behind d s id (Owes jd) shut m = (refl, refl, m.2)
falls_behind d s id (Leads jd e) shut m = absurd m.2
falls_behind d s id (Holds h) shut m = absurd (cc)

shut-no-work : (x : SlotState) (v : ℕ) → is_shut x ≡ true → (jd : ℕ) → duty_of x v ≢ Works jd
shut-no-work (Shut t e) v h jd = end-cases t.id e v (λ D. D ≢ Works jd) (λ a b c. absurd (cc)) (λ a b c. absurd (cc)) (λ a b c k. absurd (cc))
    (λ a b c k. absurd (cc)) (λ a b k. absurd (cc))
shut-no-work _ v h jd = absurd (cc)

-- from a place of the slot at which nothing but a debt ties it, to one that is no tie
frees : (d : Shape) (s : ℕ) (p q : Place) (D : Duty) → slot_of p ≡ s → binds q ≡ false → ((e : Ending) → IsLeading d e p → ⊥) → ((h : Held) → p ≢ Holding s h)
    → ((id : ℕ) → D ≢ Owes id) → Meets d s D p → Meets d s D q
frees d s p q (Owes id) at loose follows empty clear m = absurd (clear id refl)
frees d s p q (Leads id e) at loose follows empty clear m = absurd (follows e m.2)
frees d s p q (Holds h) at loose follows empty clear m = absurd (empty h m)
frees d s p q _ at loose follows empty clear m = λ b. absurd (true≢false (sym b ∙ loose))

-- an announcer has no tie, and so no debt
tells : (d : Shape) (s : ℕ) (again : Bool) (k : ℕ) (q : Place) (D : Duty) → binds q ≡ false → Meets d s D (Announcing s again k) → Meets d s D q
tells d s again k q D loose m = frees d s (Announcing s again k) q D refl loose (λ e f. f) (λ h e. absurd (cc))
    (λ id e. let r : false ≡ true = (subst (λ D'. Meets d s D' (Announcing s again k)) e m).1 in absurd (cc)) m

-- ---- the worker of the call at the slot of the call

-- the worker of a call meets its duty to the slot of the call afterwards, if it did before
abbrev Mine : Shape → ObjectState → ℕ → Act → Place → Type 0
Mine d S w a p = let s = site a p in IsChainOf d (S.slots s) → Meets d s (duty_of (S.slots s) w) p
    → Meets d s (duty_of (slot_after d w a (S.slots s)) w) (moved d a p)

-- a claim changes no duty
pub claims-same : (x : SlotState) (n v : ℕ) → duty_of (claimed x n) v ≡ duty_of x v
claims-same Empty n v = refl
claims-same _ n v = refl

mine-open : (d : Shape) (x : SlotState) (s w id : ℕ) → is_open x ≡ true → id ≡ id_of x → Meets d s (duty_of x w) (Inside s id)
mine-open d (Open t) s w id h e = λ b k. (refl, e)
mine-open d _ s w id h e = absurd (cc)

mine-shut : (d : Shape) (x : SlotState) (s w id : ℕ) → w < d.workers → is_open x ≡ true → Meets d s (duty_of x w) (Used s id)
    → Meets d s (duty_of (shut_by w x) w) (Leading s id)
mine-shut d (Open t) s w id low h m = subst (λ D. Meets d s D (Leading s id)) (sym (end-leads t.id (first_ending w) w refl refl))
    (refl, (m refl refl).1, record { first = asked-none w; marks = count-none d.workers (λ v. false) (λ v k. refl); within = omega arith })
mine-shut d _ s w id low h m = absurd (cc)

-- who may leave and owes nothing
mine-left : (d : Shape) (x : SlotState) (w : ℕ) (p : Place) → can_leave p ≡ true → owes x w ≡ false → Meets d (slot_of p) (duty_of x w) p
    → Meets d (slot_of p) (duty_of x w) (left p)
mine-left d x w (Astray s) can clear m = frees d s (Astray s) Free (duty_of x w) refl refl (λ e f. f) (λ h e. absurd (cc)) (λ id. not-owes x w id clear) m
mine-left d x w (Inside s id) can clear m = frees d s (Inside s id) Free (duty_of x w) refl refl (λ e f. f) (λ h e. absurd (cc)) (λ jd. not-owes x w jd clear) m
mine-left d x w (Behind s id) can clear m = frees d s (Behind s id) Free (duty_of x w) refl refl (λ e f. f) (λ h e. absurd (cc)) (λ jd. not-owes x w jd clear) m
mine-left d x w (Leading s id) can clear m = let r = leading-leads d s id (duty_of x w) m in
    subst (λ D. Meets d s D (Asking s id 0 0)) (sym r.1) (refl, refl, r.2)
mine-left d x w _ can clear m = absurd (cc)

-- who pays last or sweeps last holds the slot
mine-last : (d : Shape) (x : SlotState) (t : TaskSet) (e : Ending) (s w id : ℕ) → x ≡ Shut t e → t.id ≡ id
    → Meets d s (duty_of (finalised_by w x) w) (Holding s (finalisation id))
mine-last d x t e s w id is same = subst (λ y. Meets d s (duty_of (finalised_by w y) w) (Holding s (finalisation id))) (sym is)
    (subst (λ D. Meets d s D (Holding s (finalisation id))) (sym (held-mine (finalisation t.id) w)) (ap (λ i. Holding s (finalisation i)) (sym same)))

mine-paid : (d : Shape) (x : SlotState) (s w id : ℕ) → duty_of x w ≡ Owes id → Meets d s (duty_of (ended d w PayDone x) w) Free
mine-paid d x s w id owe = let r = owes-slot x w id owe in let t : TaskSet = r.0 in let e : Ending = r.1 in
    subst (λ y. Meets d s (duty_of (ended d w PayDone y) w) Free) (sym r.2)
    (subst (λ D. Meets d s D Free) (sym (end-clear t.id (ending_after d w PayDone e) w r.4 r.5 (paid-clear d e w)))
    (λ b. absurd (cc)))

-- what one more asked worker makes of the sets
asked-so : (d : Shape) (e : Ending) (n m w : ℕ) → IsChain d e → HasAsked d e n m → n + 1 < d.workers → HasAsked d (ending_after d w MarkMissed e) (n + 1) m
asked-so d e n m w chain h more = record {
  first = λ v. ap (λ u. upd e.asked u true v) (next-is d e n m h chain.coordinator more) ∙ asked-more e.coordinator n e.asked h.first v;
  marks = h.marks;
  within = more;
}

marked-so : (d : Shape) (e : Ending) (n m w : ℕ) → IsChain d e → HasAsked d e n m → n + 1 < d.workers
    → HasAsked d (ending_after d w MarkMarked e) (n + 1) (m + 1)
marked-so d e n m w chain h more =
    let c : ℕ = e.coordinator in
    let is : next_asked d e ≡ nth_other c n = next-is d e n m h chain.coordinator more in
    let out : e.asked (nth_other c n) ≡ false = next-unasked d e n m h in
    let clear : e.marked (nth_other c n) ≡ false = false_from_ne_true (e.marked (nth_other c n)) (λ k. true≢false (sym (chain.marked _ k) ∙ out)) in record {
      first = λ v. ap (λ u. upd e.asked u true v) is ∙ asked-more c n e.asked h.first v;
      marks = ap (λ u. count_of d.workers (upd e.marked u true)) is
          ∙ count-more d.workers e.marked (nth_other c n) (nth-other-within c n d.workers chain.coordinator more) clear ∙ ap (λ k. k + 1) h.marks;
      within = more;
    }

-- the coordinator after a mark; `a` is one of the two
mine-asked : (d : Shape) (x : SlotState) (a : Act) (s w id n m k : ℕ) → ((e : Ending) → (ending_after d w a e).coordinator ≡ e.coordinator)
    → ((e : Ending) → (ending_after d w a e).swept ≡ e.swept)
    → ((e : Ending) → IsChain d e → HasAsked d e n m → HasAsked d (ending_after d w a e) (n + 1) (m + k))
    → IsChainOf d x → Meets d s (duty_of x w) (Asking s id n m) → Meets d s (duty_of (ended d w a x) w) (Asking s id (n + 1) (m + k))
mine-asked d x a s w id n m k same_lead same_sweep more chain meets =
    let r = asking-leads d s id n m (duty_of x w) meets in
    let q = leads-slot x w id r.0 r.1 in
    let e : Ending = r.0 in let t : TaskSet = q.0 in
    subst (λ y. Meets d s (duty_of (ended d w a y) w) (Asking s id (n + 1) (m + k))) (sym q.1)
    (subst (λ D. Meets d s D (Asking s id (n + 1) (m + k))) (sym (end-leads t.id (ending_after d w a e) w (q.3 ∙ sym (same_lead e)) (same_sweep e ∙ q.4)))
    (refl, sym q.2, more e (subst (IsChainOf d) q.1 chain) r.2))

mine-swept : (d : Shape) (x : SlotState) (s w id n m k : ℕ) → Meets d s (duty_of x w) (Asking s id n m)
    → Meets d s (duty_of (ended d w (SweepOthers k) x) w) Free
mine-swept d x s w id n m k meets =
    let r = asking-leads d s id n m (duty_of x w) meets in
    let q = leads-slot x w id r.0 r.1 in
    let e : Ending = r.0 in let t : TaskSet = q.0 in
    subst (λ y. Meets d s (duty_of (ended d w (SweepOthers k) y) w) Free) (sym q.1)
    (subst (λ D. Meets d s D Free) (sym (end-rests t.id (ending_after d w (SweepOthers k) e) w q.3 refl)) (λ b. absurd (cc)))

-- the holder of a slot goes on holding it
mine-held : (d : Shape) (x : SlotState) (a : Act) (s w : ℕ) (h : Held) → Meets d s (duty_of x w) (Holding s h)
    → Meets d s (duty_of (held_on a x) w) (Holding s (held_after a h))
mine-held d x a s w h m = ⊎_elim
    (λ is. subst (λ y. Meets d s (duty_of (held_on a y) w) (Holding s (held_after a h))) (sym is) (subst
    (λ D. Meets d s D (Holding s (held_after a h))) (sym (held-mine (held_after a h) w)) refl))
    (λ r. subst (λ y. Meets d s (duty_of (held_on a y) w) (Holding s (held_after a h))) (sym r.1) (subst
    (λ D. Meets d s D (Holding s (held_after a h))) (sym (held-mine (held_after a h) w)) refl))
    (holds-slot x w h (holding-holds d s h (duty_of x w) m))

mine-opened : (d : Shape) (x : SlotState) (s w id k : ℕ) (again : Bool) (h : Held) → Meets d s (duty_of x w) (Holding s h)
    → Meets d s (duty_of (opened id x) w) (Announcing s again k)
mine-opened d x s w id k again h m = ⊎_elim
    (λ is. subst (λ y. Meets d s (duty_of (opened id y) w) (Announcing s again k)) (sym is) (λ b. absurd (cc)))
    (λ r. subst (λ y. Meets d s (duty_of (opened id y) w) (Announcing s again k)) (sym r.1) (λ b. absurd (cc)))
    (holds-slot x w h (holding-holds d s h (duty_of x w) m))

pub told-loose : (d : Shape) (s : ℕ) (again : Bool) (k : ℕ) → binds (told_one d (Announcing s again k)) ≡ false
told-loose d s again k = cond_both (eqb (k + 1) d.workers) Free (Announcing s again (k + 1)) (λ q. binds q ≡ false) (λ t. refl) (λ t. refl)

pub mine : (d : Shape) (S : ObjectState) (w : ℕ) (a : Act) → w < d.workers → IsAllowed d S w a → Mine d S w a (S.places w)
mine d S w (Enter s) low ok = subst (Mine d S w (Enter s)) (sym ok.0) (λ c m. enters d s (duty_of (S.slots s) w) m)
mine d S w (LookOpen id) low ok = subst (Mine d S w (LookOpen id)) (sym ok.1) (λ c m. mine-open d (S.slots ok.0) ok.0 w id ok.2 ok.3)
mine d S w LookInvalid low ok = subst (Mine d S w LookInvalid) (sym ok.1) (λ c m. strays d ok.0 _ m)
mine d S w LookVacant low ok = subst (Mine d S w LookVacant) (sym ok.1) (λ c m. strays d ok.0 _ m)
mine d S w (ClaimRange n from to) low ok = λ c m. subst (λ D. Meets d (slot_of (S.places w)) D (S.places w))
    (sym (claims-same (S.slots (slot_of (S.places w))) n w)) m
mine d S w (ClaimUsed n) low ok = subst (Mine d S w (ClaimUsed n)) (sym ok.2)
    (λ c m. subst (λ D. Meets d ok.0 D (Used ok.0 ok.1)) (sym (claims-same (S.slots ok.0) n w)) (uses d ok.0 ok.1 _ m))
mine d S w ShutWon low ok = subst (Mine d S w ShutWon) (sym ok.2) (λ c m. mine-shut d (S.slots ok.0) ok.0 w ok.1 low ok.3 m)
mine d S w ShutLost low ok = subst (Mine d S w ShutLost) (sym ok.2) (λ c m. falls_behind d ok.0 ok.1 _ (shut-no-work (S.slots ok.0) w ok.3) m)
mine d S w LeaveLeft low ok = λ c m. mine-left d _ w (S.places w) ok.0 ok.1 m
mine d S w (LeaveOwe id) low ok = λ c m. let s : ℕ = slot_of (S.places w) in
    subst (λ D. Meets d s D (Owing s id)) (sym (owes-duty d (S.slots s) w c ok.1)) (refl, refl, λ b. ok.2)
mine d S w PayLast low ok = subst (Mine d S w PayLast) (sym ok.2) (λ c m. let r = owes-slot (S.slots ok.0) w ok.1 (owing-owes d ok.0 ok.1 _ m) in
    mine-last d (S.slots ok.0) r.0 r.1 ok.0 w ok.1 r.2 r.3)
mine d S w PayDone low ok = subst (Mine d S w PayDone) (sym ok.2) (λ c m. mine-paid d (S.slots ok.0) ok.0 w ok.1 (owing-owes d ok.0 ok.1 _ m))
mine d S w MarkMarked low ok = subst (Mine d S w MarkMarked) (sym ok.4)
    (λ c m. mine-asked d (S.slots ok.0) MarkMarked ok.0 w ok.1 ok.2 ok.3 1 (λ e. refl) (λ e. refl)
    (λ e chain h. marked-so d e ok.2 ok.3 w chain h ok.5) c m)
mine d S w MarkMissed low ok = subst (Mine d S w MarkMissed) (sym ok.4)
    (λ c m. mine-asked d (S.slots ok.0) MarkMissed ok.0 w ok.1 ok.2 ok.3 0 (λ e. refl) (λ e. refl)
    (λ e chain h. subst (HasAsked d (ending_after d w MarkMissed e) (ok.2 + 1)) (sym (add-zero ok.3)) (asked-so d e ok.2 ok.3 w chain h ok.5)) c m)
mine d S w SweepLast low ok = subst (Mine d S w SweepLast) (sym ok.4)
    (λ c m. let r = asking-leads d ok.0 ok.1 ok.2 ok.3 _ m in let q = leads-slot (S.slots ok.0) w ok.1 r.0 r.1 in
    mine-last d (S.slots ok.0) q.0 r.0 ok.0 w ok.1 q.1 q.2)
mine d S w (SweepOthers n) low ok = subst (Mine d S w (SweepOthers n)) (sym ok.4) (λ c m. mine-swept d (S.slots ok.0) ok.0 w ok.1 ok.2 ok.3 n m)
mine d S w (ReserveGot s) low ok = λ c m. subst (λ D. Meets d s D (Holding s reservation)) (sym (held-mine reservation w)) refl
mine d S w (ReserveTaken s word) low ok = λ c m. m
mine d S w (AdmitGot q) low ok = subst (Mine d S w (AdmitGot q)) (sym ok.2) (λ c m. mine-held d (S.slots ok.0) (AdmitGot q) ok.0 w ok.1 m)
mine d S w (AdmitLost q now) low ok = λ c m. m
mine d S w (Arrivals n) low ok = λ c m. m
mine d S w (Finished n) low ok = λ c m. m
mine d S w (NoteDone k) low ok = subst (Mine d S w (NoteDone k)) (sym ok.2) (λ c m. mine-held d (S.slots ok.0) (NoteDone k) ok.0 w ok.1 m)
mine d S w (SetTotal t) low ok = subst (Mine d S w (SetTotal t)) (sym ok.2) (λ c m. mine-held d (S.slots ok.0) (SetTotal t) ok.0 w ok.1 m)
mine d S w (Install id) low ok = subst (Mine d S w (Install id)) (sym ok.2) (λ c m. mine-opened d (S.slots ok.0) ok.0 w id 0 ok.1.again ok.1 m)
mine d S w Release low ok = λ c m b. absurd (cc)
mine d S w Announce low ok = subst (Mine d S w Announce) (sym ok.3)
    (λ c m. tells d ok.0 ok.1 ok.2 (told_one d (Announcing ok.0 ok.1 ok.2)) _ (told-loose d ok.0 ok.1 ok.2) m)
mine d S w (TakeReturn part bits) low ok = λ c m. m
mine d S w (TakeChange part bits) low ok = λ c m. m
