-- The task set that a slot serves is the one that its state has, and was installed there.
use Rattle.std.proofs.Common.{◌≡◌, ℕ, ◌<◌, Bool, true, false, cond, eqb, ◌&&◌, List, [], ◌∷◌}
use Rattle.std.proofs.Common.{Option, Some, None, refl, sym, ap, ◌∙◌, subst, ⊎_elim, eq-eqb, ne_eqb}
use Rattle.std.proofs.Common.{eqb-true}
use Rattle.std.proofs.lemmas.Bool.{cases_Bool, and_parts}
use Rattle.slot_history.specs.declared.shape.Shape.{Shape}
use Rattle.slot_history.specs.declared.act.Act.{Act}
use Rattle.slot_history.specs.declared.act.Act.TheVariants.{ReserveGot, AdmitGot, NoteDone}
use Rattle.slot_history.specs.declared.act.Act.TheVariants.{SetTotal, Install, Release}
use Rattle.slot_history.specs.declared.act.Entry.{Entry}
use Rattle.slot_history.specs.declared.place.Held.{Held}
use Rattle.slot_history.specs.declared.place.Place.{Place}
use Rattle.slot_history.specs.States.{SlotState, Open, ObjectState, slot_of, task_at}
use Rattle.slot_history.specs.Steps.{site, slot_after, claimed, shut_by, ended, finalised_by}
use Rattle.slot_history.specs.Steps.{held_on, opened, state_after}
use Rattle.slot_history.specs.Allowed.{IsAllowed}
use Rattle.slot_history.specs.Histories.{IsLegal, place_of, is_install, slot_with, renews}
use Rattle.slot_history.specs.Histories.{task_given, task_in}
use Rattle.slot_history.specs.Table.{IsTable}
use Rattle.slot_history.specs.Lives.{Never}
use Rattle.slot_history.proofs.Sets.{upd-cases}
use Rattle.slot_history.proofs.Duties.{IsHeldBy}
use Rattle.slot_history.proofs.Table.{table}
use Rattle.slot_history.proofs.SlotSteps.{after-others}
use Rattle.slot_history.proofs.Holdings.{holder-slot}
use Rattle.slot_history.proofs.Counts.{install-never, counts-as}

-- ---- the task set that a slot serves, by its state

pub at-claimed : (x : SlotState) (n : ℕ) → task_at (claimed x n) ≡ task_at x
at-claimed (Open t) n = refl
at-claimed _ n = refl

pub at-shut : (x : SlotState) (w : ℕ) → task_at (shut_by w x) ≡ task_at x
at-shut (Open t) w = refl
at-shut _ w = refl

pub at-ended : (d : Shape) (w : ℕ) (a : Act) (x : SlotState) → task_at (ended d w a x) ≡ task_at x
at-ended d w a (Open t) = refl
at-ended d w a _ = refl

at-last : (x : SlotState) (w : ℕ) → task_at (finalised_by w x) ≡ task_at x
at-last (Open t) w = refl
at-last _ w = refl

pub at-held : (a : Act) (x : SlotState) → task_at (held_on a x) ≡ task_at x
at-held a (Open t) = refl
at-held a _ = refl

at-opened : (x : SlotState) (id w : ℕ) (h : Held) → IsHeldBy w h x → task_at (opened id x) ≡ Some id
at-opened x id w h how = ⊎_elim (λ e. ap (λ y. task_at (opened id y)) e) (λ r. ap (λ y. task_at (opened id y)) r.1) how

-- after a call that is about the slot
at-after : (d : Shape) (S : ObjectState) (w : ℕ) (a : Act) → w < d.workers → IsTable d S → IsAllowed d S w a
    → let x = S.slots (site a (S.places w)) in task_at (slot_after d w a x) ≡ cond (renews a) (task_given a) (task_at x)
at-after d S w (AdmitGot q) low tab ok = at-held (AdmitGot q) (S.slots (slot_of (S.places w)))
at-after d S w (NoteDone k) low tab ok = at-held (NoteDone k) (S.slots (slot_of (S.places w)))
at-after d S w (SetTotal t) low tab ok = at-held (SetTotal t) (S.slots (slot_of (S.places w)))
at-after d S w (Install id) low tab ok = subst (λ p. task_at (opened id (S.slots (slot_of p))) ≡ Some id) (sym ok.2)
    (at-opened (S.slots ok.0) id w ok.1 (holder-slot d S tab w ok.0 ok.1 low ok.2))
at-after d S w (ReserveGot s) low tab ok = refl
at-after d S w Release low tab ok = refl
at-after d S w a low tab ok = after-others d w (λ x y. task_at y ≡ task_at x) (λ x. refl) at-claimed (λ x. at-shut x w) (λ x. at-last x w)
    (at-ended d w) a refl (S.slots (site a (S.places w)))

renewed-here : (r here : Bool) (new old : Option ℕ) → here ≡ true → cond (r && here) new old ≡ cond r new old
renewed-here true here new old e = ap (λ b. cond b new old) e
renewed-here false here new old e = refl

renewed-elsewhere : (r here : Bool) (new old : Option ℕ) → here ≡ false → cond (r && here) new old ≡ old
renewed-elsewhere true here new old e = ap (λ b. cond b new old) e
renewed-elsewhere false here new old e = refl

pub task-at : (d : Shape) (h : List Entry) → IsLegal d h → (s : ℕ) → task_in d s h ≡ task_at ((state_after d h).slots s)
task-at d [] legal s = refl
task-at d (e ∷ es) legal s =
    let S : ObjectState = state_after d es in
    let a : Act = e.act in
    let k : ℕ = site a (S.places e.worker) in
    upd-cases S.slots k (slot_after d e.worker a (S.slots k)) s (λ x. cond (renews a && eqb k s) (task_given a) (task_in d s es) ≡ task_at x)
    (λ here. renewed-here (renews a) (eqb k s) (task_given a) (task_in d s es) (eq-eqb k s (sym here))
    ∙ ap (λ o. cond (renews a) (task_given a) o) (task-at d es legal.2 s ∙ ap (λ j. task_at (S.slots j)) here)
    ∙ sym (at-after d S e.worker a legal.0 (table d es legal.2) legal.1))
    (λ far. renewed-elsewhere (renews a) (eqb k s) (task_given a) (task_in d s es) (ne_eqb k s (λ i. far (sym i))) ∙ task-at d es legal.2 s)

-- ---- the slot of a task set is the one that serves it

pub given-install : (a : Act) (id : ℕ) → task_given a ≡ Some id → is_install a id ≡ true
given-install (Install jd) id e = eq-eqb jd id (cc)
given-install _ id e = absurd (cc)

pub given-site : (a : Act) (p : Place) (id : ℕ) → task_given a ≡ Some id → site a p ≡ slot_of p
given-site (Install jd) p id e = refl
given-site _ p id e = absurd (cc)

-- what is installed now was in no slot before
pub install-new : (d : Shape) (h : List Entry) (w : ℕ) (a : Act) (id : ℕ) → IsLegal d h → w < d.workers → IsAllowed d (state_after d h) w a
    → is_install a id ≡ true → slot_with d id h ≡ None
install-new d h w a id legal low ok this = (counts-as d id h legal Never (install-never d h w a id legal low ok this).0).3

pub serving-slot : (d : Shape) (h : List Entry) → IsLegal d h → (s id : ℕ) → task_in d s h ≡ Some id → slot_with d id h ≡ Some s
serving-slot d [] legal s id at = absurd (cc)
serving-slot d (e ∷ es) legal s id at =
    let p : Place = place_of d es e.worker in let a : Act = e.act in let here : Bool = renews a && eqb (site a p) s in ⊎_elim
    (λ this. let given : task_given a ≡ Some id = sym (ap (λ b. cond b (task_given a) (task_in d s es)) this) ∙ at in
    ap (λ b. cond b (Some (slot_of p)) (slot_with d id es)) (given-install a id given)
    ∙ ap Some (sym (given-site a p id given) ∙ eqb-true (site a p) s (and_parts (renews a) (eqb (site a p) s) this).1))
    (λ other. let before : slot_with d id es ≡ Some s = serving-slot d es legal.2 s id (sym (ap (λ b. cond b (task_given a) (task_in d s es)) other) ∙ at) in
    ⊎_elim
    (λ this. absurd (let new : slot_with d id es ≡ None = install-new d es e.worker a id legal.2 legal.0 legal.1 this in let r : None ≡ Some s = sym new
    ∙ before in cc))
    (λ not_this. ap (λ b. cond b (Some (slot_of p)) (slot_with d id es)) not_this ∙ before)
    (cases_Bool (is_install a id)))
    (cases_Bool here)
