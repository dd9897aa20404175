-- What is known at each moment of a turn that a worker makes while all workers are free.
use Rattle.std.proofs.Common.{◌≡◌, ◌⊎◌, ⊎_elim, ℕ, ◌+◌, ◌/◌, ◌<◌, ◌≤◌, Bool, true, false, ◌&&◌, ltb, leb}
use Rattle.std.proofs.Common.{List, [], ◌∷◌, ◌++◌, Some, None, refl, sym, ap, ◌∙◌, subst, arith}
use Rattle.std.specs.Prelude.{fold}
use Rattle.std.proofs.lemmas.Bool.{true≢false, cases_lt, and_cases, ltb-false, leb-false}
use Rattle.slot_history.specs.declared.shape.Shape.{Shape}
use Rattle.slot_history.specs.declared.shape.TheConstants.{PARTS, MOST_SLOTS}
use Rattle.slot_history.specs.declared.act.Act.{Act}
use Rattle.slot_history.specs.declared.act.Entry.{Entry}
use Rattle.slot_history.specs.Sets.{sum_below}
use Rattle.slot_history.specs.States.{SlotState, Empty, ObjectState, is_empty, is_open}
use Rattle.slot_history.specs.Steps.{site, slot_after, next, state_after}
use Rattle.slot_history.specs.Histories.{IsLegal, entry}
use Rattle.slot_history.specs.Notices.{IsQuiet, take_of}
use Rattle.slot_history.specs.Bounds.{IsShape, IsWithin}
use Rattle.slot_history.specs.LoneTurns.{AreTakes, Took}
use Rattle.slot_history.proofs.Sets.{upd-cases}
use Rattle.slot_history.proofs.Within.{within}
use Rattle.slot_history.proofs.Taken.{taken-is-known}
use Rattle.stride_set.specs.Strides.{Strides, Call, JoinChange, JoinReturn, DropSlot, Choose, Advance, stride_after, choice_of}
use Rattle.stride_set.proofs.Choices.{choice_from-idle, choice_from-chosen}
use Rattle.slot_station.specs.Desks.{Desk}
use Rattle.turn_model.specs.Workloads.{Workload, sets_of}
use Rattle.turn_model.specs.Moves.{Move, Made, Exchanged}
use Rattle.turn_model.specs.Learned.{record_by, calls_of, strides_by}
use Rattle.turn_model.specs.Measure.{ArriveInTime, done_of, IsAccount}
use Rattle.turn_model.proofs.Activity.{active-by-records}
use Rattle.run_laws.proofs.Least.{sum-equal, sum-most, sum-longer}
use Rattle.run_laws.proofs.Numbers.{new_records}
use Rattle.run_laws.proofs.Serving.{empty-query, unserved}

-- ---- the choice of a slot

slots-stay : (st : Strides) (calls : List Call) → (fold stride_after st calls).slots ≡ st.slots
slots-stay st [] = refl
slots-stay st (JoinChange s ∷ calls) = slots-stay (stride_after st (JoinChange s)) calls
slots-stay st (JoinReturn s ∷ calls) = slots-stay (stride_after st (JoinReturn s)) calls
slots-stay st (DropSlot s ∷ calls) = slots-stay (stride_after st (DropSlot s)) calls
slots-stay st (Choose s ∷ calls) = slots-stay (stride_after st (Choose s)) calls
slots-stay st (Advance s ns p ∷ calls) = slots-stay (stride_after st (Advance s ns p)) calls

strides-slots : (D : Desk Workload) (ms : List Move) → (strides_by D ms).slots ≡ D.shape.slots
strides-slots D [] = refl
strides-slots D (Made a t ∷ ms) = slots-stay (strides_by D ms) (calls_of D a t ms) ∙ strides-slots D ms
strides-slots D (Exchanged ∷ ms) = strides-slots D ms

-- the slot that is chosen has an active record
pub chosen-active : (D : Desk Workload) (ms : List Move) (s : ℕ) → choice_of (strides_by D ms) ≡ Some s
    → (s < D.shape.slots) × ((record_by D s ms).active ≡ true)
chosen-active D ms s chosen =
    let st : Strides = strides_by D ms in
    let is = choice_from-chosen st.slots st.active st.pass (choice_of st) s refl chosen in
    (subst (λ n. s < n) (strides-slots D ms) is.in_range, sym (active-by-records D ms s) ∙ is.is_active)

-- and if none is chosen no record is active
pub unchosen-active : (D : Desk Workload) (ms : List Move) (s : ℕ) → choice_of (strides_by D ms) ≡ None → s < D.shape.slots
    → (record_by D s ms).active ≡ false
unchosen-active D ms s none low =
    let st : Strides = strides_by D ms in
    sym (active-by-records D ms s) ∙ choice_from-idle st.slots st.active st.pass none s (subst (λ n. s < n) (sym (strides-slots D ms)) low)

-- ---- the notices that were taken

abbrev pub TookAll : Bool → ℕ → ℕ → List Entry → Type 0
TookAll again w n es = (j : ℕ) → j < n → Took again w j es

pub took-more : (again : Bool) (w j : ℕ) (e : Entry) (es : List Entry) → Took again w j es → Took again w j (e ∷ es)
took-more again w j e es (bits, more, early, is) = (bits, e ∷ more, early, ap (λ l. e ∷ l) is)

pub took-next : (again : Bool) (w k part bits : ℕ) (es : List Entry) → part ≡ k → TookAll again w k es
    → TookAll again w (k + 1) (entry w (take_of again part bits) ∷ es)
took-next again w k part bits es at took j low = ⊎_elim
    (λ before. took-more again w j (entry w (take_of again part bits)) es (took j before))
    (λ last. let same : j ≡ part = omega (arith, low, last, at) in
    (bits, [], es, ap (λ p. entry w (take_of again p bits) ∷ es) (sym same)))
    (cases_lt j k)

pub took-all : (again : Bool) (w n : ℕ) (es : List Entry) → PARTS ≤ n → TookAll again w n es → TookAll again w PARTS es
took-all again w n es most took j low = took j (omega (arith, low, most))

-- ---- slots that are open have active records

abbrev pub OpenAreActive : ObjectState → ℕ → Type 0
OpenAreActive S w = (s : ℕ) → is_open (S.slots s) ≡ true → (S.records w s).active ≡ true

not-both : (x : SlotState) → is_empty x ≡ true → is_open x ≡ true → ⊥
not-both Empty e o = true≢false (sym o)
not-both _ e o = true≢false (sym e)

pub open-low : (d : Shape) (S : ObjectState) (s : ℕ) → IsWithin d S → is_open (S.slots s) ≡ true → s < d.slots
open-low d S s near o = ⊎_elim (λ low. low) (λ high. absurd (not-both (S.slots s) (near.slots s high) o)) (cases_lt s d.slots)

pub taken-active : (d : Shape) (w : ℕ) (es old : List Entry) → IsShape d → w < d.workers → IsLegal d (es ++ old) → IsQuiet d (state_after d old) → AreTakes es
    → TookAll true w PARTS es → TookAll false w PARTS es → OpenAreActive (state_after d (es ++ old)) w
taken-active d w es old shape low legal quiet all returns changes s o =
    let s_low : s < d.slots = open-low d (state_after d (es ++ old)) s (within d (es ++ old) legal) o in
    let most : d.slots ≤ MOST_SLOTS = shape.slots.1 in
    let part : s / 64 < PARTS = omega (arith, s_low, most) in
    (taken-is-known d w s es old low legal quiet all (took part) o).0 where
      took : s / 64 < PARTS → (again : Bool) → Took again w (s / 64) es
      took part true = returns (s / 64) part
      took part false = changes (s / 64) part

-- a call that leaves its slot and the records leaves that too
pub active-stays : (d : Shape) (S : ObjectState) (w : ℕ) (a : Act)
    → slot_after d w a (S.slots (site a (S.places w))) ≡ S.slots (site a (S.places w)) → new_records S w a ≡ S.records w
    → OpenAreActive S w → OpenAreActive (next d S w a) w
active-stays d S w a slot records active s =
    let k : ℕ = site a (S.places w) in
    upd-cases S.slots k (slot_after d w a (S.slots k)) s (λ x. is_open x ≡ true → ((next d S w a).records w s).active ≡ true)
    (λ e o. stays (active s (ap (λ j. is_open (S.slots j)) e ∙ ap is_open (sym slot) ∙ o))) (λ n o. stays (active s o)) where
      stays : (S.records w s).active ≡ true → ((next d S w a).records w s).active ≡ true
      stays h = upd-cases S.records w (new_records S w a) w (λ r. (r s).active ≡ true) (λ e. ap (λ r. (r s).active) records ∙ h) (λ n. h)

-- ---- no slot is open

-- all slots are empty if all workers are free and no slot is open
pub all-empty : (d : Shape) (S : ObjectState) → ((s : ℕ) → (is_empty (S.slots s) ≡ true) ⊎ (is_open (S.slots s) ≡ true))
    → ((s : ℕ) → is_open (S.slots s) ≡ true → ⊥) → (s : ℕ) → is_empty (S.slots s) ≡ true
all-empty d S either none s = ⊎_elim (λ e. e) (λ o. absurd (none s o)) (either s)

-- then all task sets of the admitted queries are done
pub all-done : (d : Shape) (load : Workload) (S : ObjectState) → IsAccount d load S → ((s : ℕ) → is_empty (S.slots s) ≡ true)
    → S.finished ≡ sum_below S.admitted load.stages
all-done d load S account empty = account.sum
    ∙ sum-equal S.admitted load.stages (done_of d load S) (λ q low. unserved d load S q (λ s s_low. empty-query (S.slots s) q (empty s)))

-- and if no query is due, those of all queries
pub none-due : (d : Shape) (load : Workload) (S : ObjectState) → ArriveInTime d load → S.admitted ≤ d.queries → S.finished ≡ sum_below S.admitted load.stages
    → (ltb S.admitted d.queries && leb (load.after S.admitted) S.finished) ≡ false → sets_of d load ≤ S.finished
none-due d load S in_time most done undue = ⊎_elim
    (λ more. let here : load.after S.admitted ≤ sum_below S.admitted load.stages = in_time S.admitted more in ⊎_elim
    (λ past. let p : d.queries ≤ S.admitted = ltb-false S.admitted d.queries past in absurd (omega (arith, p, more)))
    (λ early. let e : S.finished < load.after S.admitted = leb-false (load.after S.admitted) S.finished early in absurd (omega (arith, e, here, done)))
    (and_cases (ltb S.admitted d.queries) (leb (load.after S.admitted) S.finished) undue))
    (λ all. let same : S.admitted ≡ d.queries = omega (arith, all, most) in
    let sums : sum_below S.admitted load.stages ≡ sum_below d.queries load.stages = ap (λ n. sum_below n load.stages) same in omega (arith, done, sums))
    (cases_lt S.admitted d.queries)

-- never are more task sets noted than there are
pub finished-low : (d : Shape) (load : Workload) (S : ObjectState) → IsAccount d load S → S.admitted ≤ d.queries → S.finished ≤ sets_of d load
finished-low d load S account most =
    let a : S.finished ≡ sum_below S.admitted (done_of d load S) = account.sum in
    let b : sum_below S.admitted (done_of d load S) ≤ sum_below S.admitted load.stages = sum-most S.admitted (done_of d load S) load.stages account.within in
    let e : sum_below S.admitted load.stages ≤ sum_below d.queries load.stages = sum-longer S.admitted d.queries load.stages most in
    omega (arith, a, b, e)
