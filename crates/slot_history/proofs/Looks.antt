-- Where a query is seen, and where the answer Last comes.
use Rattle.std.proofs.Common.{◌≡◌, ℕ, ◌+◌, ◌/◌, ◌<◌, ◌≤◌, ⊎_elim, ◌&&◌, cond, eqb, true, false}
use Rattle.std.proofs.Common.{List, [], ◌∷◌, Some, refl, sym, ap, ◌∙◌, subst, arith}
use Rattle.std.specs.Prelude.{unwrap_or}
use Rattle.std.proofs.lemmas.Bool.{cases_Bool}
use Rattle.slot_history.specs.declared.shape.Shape.{Shape}
use Rattle.slot_history.specs.declared.shape.TheConstants.{STAGES}
use Rattle.slot_history.specs.declared.act.Act.TheVariants.{LookOpen, Install}
use Rattle.slot_history.specs.declared.act.Entry.{Entry}
use Rattle.slot_history.specs.declared.place.Place.{Place}
use Rattle.slot_history.specs.declared.place.Place.TheVariants.{Entered}
use Rattle.slot_history.specs.States.{TaskSet, SlotState, Open, Shut, Finishing, ObjectState}
use Rattle.slot_history.specs.States.{slot_of, id_at, id_of, is_open, task_at}
use Rattle.slot_history.specs.Steps.{site, state_after}
use Rattle.slot_history.specs.Allowed.{IsAllowed}
use Rattle.slot_history.specs.Histories.{IsLegal, entry, place_of, claims_of, installs_of, lasts_of}
use Rattle.slot_history.specs.Histories.{slot_with, task_in, task_given, renews, is_install}
use Rattle.slot_history.specs.Lives.{Runs, query_in}
use Rattle.slot_history.specs.Looks.{TaskKeepsSlot, LastInSlot, FinishingInSlot, OneSlotSeen}
use Rattle.slot_history.specs.Looks.{SameQuerySeen, StageBefore}
use Rattle.slot_history.proofs.Beginnings.{begins-legal, begins-less, begins-cases}
use Rattle.slot_history.proofs.TaskSetsKept.{installs-grow, not-again, slot-stays, last-stays}
use Rattle.slot_history.proofs.SlotTasks.{task-at, serving-slot, given-install}
use Rattle.slot_history.proofs.Book.{book}
use Rattle.slot_history.proofs.BookSteps.{tiles-spent}
use Rattle.slot_history.proofs.Counts.{install-is, last-runs, counts-as, slot-installed}
use Rattle.slot_history.proofs.Claims.{tiles-total, finishing-last}
use Rattle.slot_history.proofs.Stages.{stages-in-order, query-keeps-slot}

-- ---- what a look sees

open-task : (x : SlotState) → is_open x ≡ true → task_at x ≡ Some (id_of x)
open-task (Open t) o = refl
open-task _ o = absurd (cc)

task-query : (x : SlotState) (k : ℕ) → task_at x ≡ Some k → query_in x ≡ Some (k / STAGES)
task-query (Open t) k e = ap (λ o. Some (unwrap_or o 0 / STAGES)) e
task-query (Shut t y) k e = ap (λ o. Some (unwrap_or o 0 / STAGES)) e
task-query (Finishing id w h) k e = ap (λ o. Some (unwrap_or o 0 / STAGES)) e
task-query _ k e = absurd (cc)

-- a look that answers an id found its task set served by the slot
pub look-serves : (d : Shape) (w s id : ℕ) (h : List Entry) → IsLegal d (entry w (LookOpen id) ∷ h) → place_of d h w ≡ Entered s → task_in d s h ≡ Some id
look-serves d w s id h legal at =
    let S : ObjectState = state_after d h in
    let fine : IsAllowed d S w (LookOpen id) = legal.1 in
    let here : fine.0 ≡ s = ap slot_of (sym fine.1 ∙ at) in
    subst (λ k. task_in d k h ≡ Some id) here (task-at d h legal.2 fine.0 ∙ open-task (S.slots fine.0) fine.2 ∙ ap Some (sym fine.3))

-- a task set that a slot serves was installed
pub serving-installed : (d : Shape) (h : List Entry) (s id : ℕ) → IsLegal d h → task_in d s h ≡ Some id → 0 < installs_of id h
serving-installed d h s id legal serves =
    slot-installed d id h legal s (serving-slot d h legal s id serves)

-- and the slot is one of its query
pub serving-query : (d : Shape) (h : List Entry) (s id : ℕ) → IsLegal d h → task_in d s h ≡ Some id → query_in ((state_after d h).slots s) ≡ Some (id / STAGES)
serving-query d h s id legal serves = task-query ((state_after d h).slots s) id (sym (task-at d h legal s) ∙ serves)

pub one-slot-seen : OneSlotSeen
one-slot-seen d w v s t id jd h early legal begins at at' same =
    let old : IsLegal d (entry v (LookOpen jd) ∷ early) = begins-legal d h (entry v (LookOpen jd) ∷ early) legal.2 begins in
    let now : task_in d s h ≡ Some id = look-serves d w s id h legal at in
    let then : task_in d t early ≡ Some jd = look-serves d v t jd early old at' in
    let kept = query-keeps-slot d h legal.2 s id jd early now (begins-less h early (entry v (LookOpen jd)) begins) same
    (serving-installed d early t jd old.2 then) in
    (book d early old.2).apart s t (id / STAGES) (serving-query d early s kept.0 old.2 kept.1 ∙ ap Some kept.2) (serving-query d early t jd old.2 then
    ∙ ap Some same)

pub same-query-seen : SameQuerySeen
same-query-seen d w u s id jd kd h mid legal begins at at' same was =
    let old : IsLegal d (entry u (LookOpen kd) ∷ mid) = begins-legal d h (entry u (LookOpen kd) ∷ mid) legal.2 begins in
    let now : task_in d s h ≡ Some id = look-serves d w s id h legal at in
    let kept = query-keeps-slot d h legal.2 s id jd mid now (begins-less h mid (entry u (LookOpen kd)) begins) same was in
    let sees : kd ≡ kept.0 = ap (λ o. unwrap_or o 0) (sym (look-serves d u s kd mid old at') ∙ kept.1) in
    ap (λ i. i / STAGES) sees ∙ kept.2

-- ---- a task set keeps its slot

pub task-keeps-slot : TaskKeepsSlot
task-keeps-slot d [] mid s id legal serving begins was = absurd (cc)
task-keeps-slot d (e ∷ es) mid s id legal serving begins was = ⊎_elim
    (λ same. subst (λ h. task_in d s h ≡ Some id) (sym same) serving)
    (λ before. ⊎_elim
    (λ yes.
    let given : task_given e.act ≡ Some id = sym (ap (λ b. cond b (task_given e.act) (task_in d s es)) yes) ∙ serving in
    let old : installs_of id mid ≤ installs_of id es = subst (λ h. installs_of id mid ≤ installs_of id h) (sym before.1) (installs-grow id before.0 mid) in
    let again : true ≡ false = sym (given-install e.act id given) ∙ not-again d id e es legal (omega (arith, old, was)) in absurd (cc))
    (λ no. task-keeps-slot d es mid s id legal.2 (sym (ap (λ b. cond b (task_given e.act) (task_in d s es)) no) ∙ serving) before was)
    (cases_Bool (renews e.act && eqb (site e.act (place_of d es e.worker)) s)))
    (begins-cases e es mid begins)

-- ---- where the answer Last comes

pub last-in-slot : LastInSlot
last-in-slot d w a h legal last =
    let id : ℕ = id_at (place_of d h w) in
    let r = last-runs d h w a id legal.2 legal.0 legal.1 last refl in
    let t : TaskSet = r.0 in
    let k = counts-as d id h legal.2 (Runs (slot_of (place_of d h w)) t.total) r.1 in
    (k.3, (t.total, k.2, tiles-spent (claims_of d id h) t.cursor t.total t.total r.3 refl r.2))

pub finishing-in-slot : (d : Shape) (h : List Entry) → IsLegal d h → FinishingInSlot d h
finishing-in-slot d h legal s id w k is =
    let last : 0 < lasts_of d id h = finishing-last d h legal s id w k is in
    (serving-slot d h legal s id (task-at d h legal s ∙ ap task_at is), (last, (tiles-total d h legal).1 id last))

-- ---- the stage before

past-install : (d : Shape) (id s : ℕ) (e : Entry) (es : List Entry) → IsLegal d (e ∷ es) → (lasts_of d id es ≡ 1) × (slot_with d id es ≡ Some s)
    → (lasts_of d id (e ∷ es) ≡ 1) × (slot_with d id (e ∷ es) ≡ Some s)
past-install d id s e es legal (last, slot) = (last-stays d id (e ∷ []) es legal (omega (arith, last)), slot-stays d id s (e ∷ []) es legal slot)

pub stage-before : (d : Shape) (h : List Entry) → IsLegal d h → StageBefore d h
stage-before d [] legal id s at later = absurd (cc)
stage-before d (e ∷ es) legal id s at later = let p : Place = place_of d es e.worker in past-install d id s e es legal (⊎_elim
    (λ this.
    let now : IsLegal d (entry e.worker (Install (id + 1)) ∷ es) =
    (legal.0, subst (IsAllowed d (state_after d es) e.worker) (install-is e.act (id + 1) this) legal.1, legal.2) in
    let before = stages-in-order d e.worker id es now later in
    let here : slot_of p ≡ s = ap (λ o. unwrap_or o 0) (sym (ap (λ b. cond b (Some (slot_of p)) (slot_with d (id + 1) es)) this) ∙ at) in
    (before.0, before.1 ∙ ap Some here))
    (λ other. stage-before d es legal.2 id s (sym (ap (λ b. cond b (Some (slot_of p)) (slot_with d (id + 1) es)) other) ∙ at) later)
    (cases_Bool (is_install e.act (id + 1))))
