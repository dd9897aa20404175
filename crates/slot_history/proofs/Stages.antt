-- Stages come in order, and a query keeps its slot. It rules out a finisher that installs a stage past the next, or in
-- another slot.
use Rattle.std.proofs.Common.{◌≡◌, ◌≢◌, ℕ, ◌+◌, ◌-◌, ◌*◌, ◌/◌, ◌%◌, ◌<◌, ◌≤◌, cond, eqb, ◌&&◌, List}
use Rattle.std.proofs.Common.{[], ◌∷◌, Some, refl, sym, ap, ap₂, ◌∙◌, subst, ⊎_elim, arith}
use Rattle.std.proofs.Common.{eqb-true}
use Rattle.std.specs.Prelude.{unwrap_or}
use mathlib.Core.Logic.{dite}
use native.Mathlib.Decide.{ℕ_discrete}
use Rattle.std.proofs.lemmas.Bool.{cases_Bool, and_parts}
use Rattle.slot_history.specs.declared.shape.Shape.{Shape}
use Rattle.slot_history.specs.declared.shape.TheConstants.{STAGES}
use Rattle.slot_history.specs.declared.act.Act.{Act}
use Rattle.slot_history.specs.declared.act.Act.TheVariants.{Install}
use Rattle.slot_history.specs.declared.act.Entry.{Entry}
use Rattle.slot_history.specs.declared.place.Held.{Held}
use Rattle.slot_history.specs.declared.place.Place.{Place}
use Rattle.slot_history.specs.States.{Finishing, ObjectState, slot_of, next_id, task_at}
use Rattle.slot_history.specs.Steps.{site, state_after}
use Rattle.slot_history.specs.Allowed.{IsAllowed}
use Rattle.slot_history.specs.Histories.{IsLegal, Begins, place_of, installs_of, lasts_of}
use Rattle.slot_history.specs.Histories.{slot_with, renews, task_given, task_in}
use Rattle.slot_history.specs.Table.{IsTable}
use Rattle.slot_history.specs.Bounds.{IsReservation, IsFinalisation, IsSlotSound, AreSlotsSound}
use Rattle.slot_history.specs.Lives.{book_of, Never, life_of}
use Rattle.slot_history.specs.Laws.{StagesInOrder, QueryKeepsSlot}
use Rattle.slot_history.proofs.Beginnings.{begins-cases}
use Rattle.slot_history.proofs.TaskSetsKept.{installs-grow}
use Rattle.slot_history.proofs.SlotTasks.{task-at, given-site, serving-slot}
use Rattle.slot_history.proofs.Table.{table}
use Rattle.slot_history.proofs.Holdings.{holder-slot, slots-sound}
use Rattle.slot_history.proofs.Book.{book, install-fresh}
use Rattle.slot_history.proofs.Counts.{counts-as, counts-most}
use Rattle.slot_history.proofs.Claims.{finishing-last}

-- ---- an install that goes on with a query

-- its slot is being finalised for the task set before
goes-on : (d : Shape) (S : ObjectState) (w id : ℕ) → w < d.workers → IsTable d S → AreSlotsSound d S → (ok : IsAllowed d S w (Install (id + 1)))
    → (id + 1) % STAGES ≢ 0 → S.slots ok.0 ≡ Finishing id w ok.1
goes-on d S w id low tab sound ok later = let s : ℕ = ok.0 in let h : Held = ok.1 in let next_one : id + 1 ≡ next_id h = ok.4 in ⊎_elim
    (λ e. let k : IsReservation h = subst IsSlotSound e (sound s) in
    let first : cond {A = ℕ} h.again (h.stage + 1) 0 ≡ 0 = ap (λ b. cond b (h.stage + 1) 0) k.again in
    let is : id + 1 ≡ STAGES * unwrap_or h.query 0 + cond {A = ℕ} h.again (h.stage + 1) 0 = next_one in
    absurd (later (omega arith)))
    (λ r. let jd : ℕ = r.0 in let k : IsFinalisation jd h = subst IsSlotSound r.1 (sound s) in
    let is : id + 1 ≡ STAGES * (jd / STAGES) + (h.stage + 1) = next_one ∙ ap₂
    (λ q b. STAGES * q + b) (ap (λ o. unwrap_or o 0) k.query) (ap (λ b. cond b (h.stage + 1) 0) k.again) in
    let stage : h.stage ≡ jd % STAGES = k.stage in
    r.1 ∙ ap (λ j. Finishing j w h) (let same : jd ≡ id = omega arith in same))
    (holder-slot d S tab w s h low ok.2)

pub stages-in-order : StagesInOrder
stages-in-order d w id h legal later =
    let S : ObjectState = state_after d h in
    let ok : IsAllowed d S w (Install (id + 1)) = legal.1 in
    let is = goes-on d S w id legal.0 (table d h legal.2) (slots-sound d h legal.2) ok later in
    let at : task_in d ok.0 h ≡ Some id = task-at d h legal.2 ok.0 ∙ ap task_at is in
    let some_last : 0 < lasts_of d id h = finishing-last d h legal.2 ok.0 id w ok.1 is in
    let most : lasts_of d id h ≤ 1 = (counts-most d id h legal.2).1 in
    subst (λ p. (lasts_of d id h ≡ 1) × (slot_with d id h ≡ Some (slot_of p)) × (task_in d (slot_of p) h ≡ Some id)) (sym ok.2)
    (omega arith, serving-slot d h legal.2 ok.0 id at, at)

-- ---- a query keeps its slot

given-is : (a : Act) (id : ℕ) → task_given a ≡ Some id → a ≡ Install id
given-is (Install jd) id e = ap Install (cc)
given-is _ id e = absurd (cc)

-- where the first task set of a query is installed, none of the query was before
first-new : (d : Shape) (h : List Entry) (w id jd : ℕ) → IsLegal d h → w < d.workers → IsAllowed d (state_after d h) w (Install id) → id % STAGES ≡ 0
    → jd / STAGES ≡ id / STAGES → installs_of jd h ≡ 0
first-new d h w id jd legal low ok first same =
    let fresh = install-fresh d (state_after d h) w id (book_of d h) low (table d h legal) (slots-sound d h legal) ok (book d h legal) in
    let never : life_of d jd h ≡ Never = dite (ℕ_discrete jd id) (λ e. ap (λ j. life_of d j h) e ∙ fresh.never) (λ ne. fresh.later jd (omega arith) same) in
    (counts-as d jd h legal Never never).0

same-query : (i j k : ℕ) → i / STAGES ≡ j / STAGES → j / STAGES ≡ k / STAGES → i / STAGES ≡ k / STAGES
same-query i j k first then = first ∙ then

-- what an install goes on with served the slot
kept-by-install : (d : Shape) (h early : List Entry) (w s id jd : ℕ) → IsLegal d h → w < d.workers → IsAllowed d (state_after d h) w (Install id)
    → slot_of (place_of d h w) ≡ s → QueryKeepsSlot d h
    → Begins h early → jd / STAGES ≡ id / STAGES → 0 < installs_of jd early → (kd : ℕ) × (task_in d s early ≡ Some kd) × (kd / STAGES ≡ id / STAGES)
kept-by-install d h early w s id jd legal low ok at keeps b same was = dite (ℕ_discrete (id % STAGES) 0)
    (λ first. absurd (let none : installs_of jd h ≡ 0 = first-new d h w id jd legal low ok first same in
    let grows : installs_of jd early ≤ installs_of jd h = subst (λ l. installs_of jd early ≤ installs_of jd l) (sym b.1) (installs-grow jd b.0 early) in
    omega arith))
    (λ later. let k : ℕ = id - 1 in
    let is : id ≡ k + 1 = omega arith in
    let here = stages-in-order d w k h (low, subst (λ j. IsAllowed d (state_after d h) w (Install j)) is ok, legal) (subst (λ j. j % STAGES ≢ 0) is later) in
    let whole : k / STAGES ≡ id / STAGES = omega arith in
    let r = keeps s k jd early (subst (λ j. task_in d j h ≡ Some k) at here.2) b (same ∙ sym whole) was in
    (r.0, r.1, same-query r.0 k id r.2 whole))

pub query-keeps-slot : (d : Shape) (h : List Entry) → IsLegal d h → QueryKeepsSlot d h
query-keeps-slot d [] legal s id jd early at b same was = absurd (cc)
query-keeps-slot d (e ∷ es) legal s id jd early at b same was =
    let p : Place = place_of d es e.worker in let a : Act = e.act in ⊎_elim
    (λ all. (id, ap (task_in d s) all ∙ at, refl))
    (λ before. ⊎_elim
    (λ this. let given : task_given a ≡ Some id = sym (ap (λ o. cond o (task_given a) (task_in d s es)) this) ∙ at in
    let there : slot_of p ≡ s = sym (given-site a p id given) ∙ eqb-true (site a p) s (and_parts (renews a) (eqb (site a p) s) this).1 in
    kept-by-install d es early e.worker s id jd legal.2 legal.0 (subst (IsAllowed d (state_after d es) e.worker) (given-is a id given) legal.1) there
    (query-keeps-slot d es legal.2) before same was)
    (λ other. query-keeps-slot d es legal.2 s id jd early (sym (ap (λ o. cond o (task_given a) (task_in d s es)) other) ∙ at) before same was)
    (cases_Bool (renews a && eqb (site a p) s)))
    (begins-cases e es early b)
