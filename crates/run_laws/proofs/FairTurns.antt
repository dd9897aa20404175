-- A worker chooses the slot of least pass, so its active passes never differ by more than its largest advance.
use Rattle.std.proofs.Common.{◌≡◌, ℕ, zero, suc, ◌+◌, ◌*◌, ◌/◌, ◌<◌, ◌≤◌, Bool, true, false, cond, eqb, ltb, List, [], ◌∷◌, ◌++◌, fold, Option, Some, None}
use Rattle.std.proofs.Common.{refl, sym, ap, ◌∙◌, subst, eqb-true, arith}
use Rattle.std.specs.Int.{bit_at}
use Rattle.std.proofs.lemmas.Bool.{cond_both}
use mathlib.Core.Logic.{dite}
use native.Mathlib.Decide.{ℕ_discrete}
use Rattle.slot_history.specs.declared.shape.TheConstants.{STAGES, PARTS}
use Rattle.slot_history.specs.declared.act.Act.{Act}
use Rattle.slot_history.specs.declared.act.Act.TheVariants.{Enter, LookOpen, LookInvalid, LookVacant, ClaimRange, ClaimUsed, ShutWon, ShutLost, LeaveLeft}
use Rattle.slot_history.specs.declared.act.Act.TheVariants.{LeaveOwe, PayLast, PayDone, MarkMarked, MarkMissed, SweepLast, SweepOthers, ReserveGot}
use Rattle.slot_history.specs.declared.act.Act.TheVariants.{ReserveTaken, AdmitGot, AdmitLost, Arrivals, Finished, NoteDone, SetTotal, Install, Release}
use Rattle.slot_history.specs.declared.act.Act.TheVariants.{Announce, TakeReturn, TakeChange}
use Rattle.slot_history.specs.declared.act.Entry.{Entry}
use Rattle.slot_history.specs.declared.place.Place.{Place}
use Rattle.slot_history.specs.declared.place.Place.TheVariants.{Asking, Announcing}
use Rattle.slot_history.specs.States.{ObjectState, held_at}
use Rattle.slot_history.specs.Steps.{moved, state_after}
use Rattle.slot_history.specs.Allowed.{IsAllowed, IsMask}
use Rattle.slot_history.specs.Bounds.{IsWithin}
use Rattle.slot_history.specs.Histories.{IsLegal, own_calls, entry}
use Rattle.slot_history.proofs.Within.{within}
use Rattle.slot_history.proofs.Own.{own-mine, own-other}
use Rattle.stride_set.specs.Strides.{Strides, Call, JoinChange, JoinReturn, DropSlot, Choose, Advance, choice_of, stride_after, IsChoice, MayAdvance}
use Rattle.stride_set.specs.Strides.{IsBounded, AreLawful}
use Rattle.stride_set.proofs.Choices.{choice_from-chosen}
use Rattle.stride_set.proofs.Bounds.{fold-bounded, new_strides-bounded}
use Rattle.slot_station.specs.Desks.{Desk}
use Rattle.turn_model.specs.declared.turn.Turn.{Turn}
use Rattle.turn_model.specs.Workloads.{Workload, sets_of}
use Rattle.turn_model.specs.Moves.{Move, Made, Exchanged, entries}
use Rattle.turn_model.specs.Learned.{joins, slot_by, place_by, lets_in, calls_of, strides_by, finished_by}
use Rattle.turn_model.specs.Points.{Point, Ready, Return, Change, Count, Arrive, Scan, Admit, Fill, Opens, Tells, FreeIt, Enters, Look, Early, Take, Claim}
use Rattle.turn_model.specs.Points.{Shut, Back, Leave, Ask, Sweep, Pay, Fetch, ended_as, picked, pick, asked, told, is_due, goes_on, after, exchanged, point_by}
use Rattle.turn_model.specs.Driven.{MayCall, MayExchange, AreDriven}
use Rattle.turn_model.specs.Runs.{desk_at}
use Rattle.run_laws.specs.Scheduled.{WorkersAreFair}
use Rattle.run_laws.proofs.Made.{first_of, rest_of}

-- ---- joins

abbrev IsJoin : ℕ → Call → Type 0
IsJoin n (JoinChange s) = s < n
IsJoin n (JoinReturn s) = s < n
IsJoin n call = ⊥

-- each of the calls joins one of n slots
abbrev AreJoins : ℕ → List Call → Type 0
AreJoins n [] = Unit {0}
AreJoins n (call ∷ calls) = IsJoin n call × AreJoins n calls

joins-append : (n : ℕ) (xs ys : List Call) → AreJoins n xs → AreJoins n ys → AreJoins n (xs ++ ys)
joins-append n [] ys all more = more
joins-append n (x ∷ xs) ys all more = (all.0, joins-append n xs ys all.1 more)

joins-lawful : (calls : List Call) (st : Strides) → AreJoins st.slots calls → AreLawful st calls
joins-lawful [] st all = tt
joins-lawful (JoinChange s ∷ calls) st all = (all.0, joins-lawful calls (stride_after st (JoinChange s)) all.1)
joins-lawful (JoinReturn s ∷ calls) st all = (all.0, joins-lawful calls (stride_after st (JoinReturn s)) all.1)
joins-lawful (call ∷ calls) st all = absurd all.0

are-joins : (m : ℕ) (join : ℕ → Call) → ((s : ℕ) → s < m → IsJoin m (join s)) → (part bits n : ℕ) → n ≤ 64
    → ((k : ℕ) → k < 64 → bit_at bits k ≡ 1 → part * 64 + k < m) → AreJoins m (joins join n part bits)
unfolding joins
are-joins m join joins_one part bits zero most each = tt
are-joins m join joins_one part bits (suc n) most each =
    joins-append m (joins join n part bits) (cond (eqb (bit_at bits n) 1) (join (part * 64 + n) ∷ []) [])
    (are-joins m join joins_one part bits n (omega (arith, most)) each)
    (cond_both (eqb (bit_at bits n) 1) (join (part * 64 + n) ∷ []) [] (AreJoins m)
    (λ set. (joins_one (part * 64 + n) (each n (omega (arith, most)) (eqb-true (bit_at bits n) 1 set)), tt)) (λ clear. tt))

-- the bits of a mask are those of slots that there are
bits-low : (m part bits : ℕ) (pending : ℕ → Bool) → IsMask part pending bits → ((s : ℕ) → pending s ≡ true → s < m)
    → (k : ℕ) → k < 64 → bit_at bits k ≡ 1 → part * 64 + k < m
bits-low m part bits pending mask low k below set = low (part * 64 + k) (is_set (pending (part * 64 + k)) (sym (mask.each k below) ∙ set)) where
  is_set : (b : Bool) → cond {A = ℕ} b 1 0 ≡ 1 → b ≡ true
  is_set true e = refl
  is_set false e = absurd (omega (arith, e))

slots-kept : (calls : List Call) (st : Strides) → (fold stride_after st calls).slots ≡ st.slots
slots-kept [] st = refl
slots-kept (JoinChange s ∷ calls) st = slots-kept calls (stride_after st (JoinChange s))
slots-kept (JoinReturn s ∷ calls) st = slots-kept calls (stride_after st (JoinReturn s))
slots-kept (DropSlot s ∷ calls) st = slots-kept calls (stride_after st (DropSlot s))
slots-kept (Choose s ∷ calls) st = slots-kept calls (stride_after st (Choose s))
slots-kept (Advance s ns priority ∷ calls) st = slots-kept calls (stride_after st (Advance s ns priority))

-- ---- what points say of the passes

module _ (D : Desk Workload) where
  -- the chosen slot has the least pass, and the slot at which the worker may claim is active, with its pass at the floor
  abbrev Says : List Move → Point → Type 0
  Says ms (Enters s) = IsChoice (strides_by D ms) s
  Says ms Look = MayAdvance (strides_by D ms) (slot_by D ms)
  Says ms Take = MayAdvance (strides_by D ms) (slot_by D ms)
  Says ms Claim = MayAdvance (strides_by D ms) (slot_by D ms)
  Says ms Shut = slot_by D ms < (strides_by D ms).slots
  Says ms x = Unit {0}

  says-cond : (ms : List Move) (b : Bool) (x y : Point) → Says ms x → Says ms y → Says ms (cond b x y)
  says-cond ms b x y one other = cond_both b x y (Says ms) (λ t. one) (λ f. other)

  says-picked : (ms : List Move) (o : Option ℕ) (turn : Turn) → ((s : ℕ) → o ≡ Some s → IsChoice (strides_by D ms) s) → Says ms (picked o turn)
  says-picked ms None turn is = tt
  says-picked ms (Some s) turn is = is s refl

  says-asked : (ms : List Move) (n : ℕ) (p : Place) → Says ms (asked n p)
  says-asked ms n (Asking s id k m) = says-cond ms (ltb (k + 1) n) Ask Sweep tt tt
  says-asked ms n p = tt

  says-told : (ms : List Move) (p : Place) → Says ms (told p)
  says-told ms (Announcing s again k) = tt
  says-told ms p = tt

  is-choice : (ms : List Move) (s : ℕ) → choice_of (strides_by D ms) ≡ Some s → IsChoice (strides_by D ms) s
  is-choice ms s chosen = choice_from-chosen (strides_by D ms).slots (strides_by D ms).active (strides_by D ms).pass (choice_of (strides_by D ms)) s refl chosen

  says-entered : (ms : List Move) (s k t : ℕ) → k ≡ s → IsChoice (strides_by D ms) s → MayAdvance (strides_by D (Made (Enter k) t ∷ ms)) k
  says-entered ms s k t same choice = let is = subst (IsChoice (strides_by D ms)) (sym same) choice in
      record { in_range = is.in_range; active = is.is_active; at_floor = refl }

  says-let-in : (ms : List Move) (id t : ℕ) (b : Bool) → lets_in D ms (id / STAGES) ≡ b → MayAdvance (strides_by D ms) (slot_by D ms)
      → Says (Made (LookOpen id) t ∷ ms) (cond b Take Early)
  says-let-in ms id t true lets may = subst (λ l. MayAdvance (fold stride_after (strides_by D ms) l) (slot_by D ms))
      (sym (ap (λ b. cond b [] (DropSlot (slot_by D ms) ∷ [])) lets)) may
  says-let-in ms id t false lets may = tt

  call-says : (ms : List Move) (x : Point) (a : Act) (t : ℕ) → MayCall D ms x a → Says ms x → Says (Made a t ∷ ms) (after D ms x a)
  call-says ms (Ready e) (TakeReturn part bits) t m says = tt
  call-says ms (Return k) (TakeReturn part bits) t m says = says-cond (Made (TakeReturn part bits) t ∷ ms) (ltb (k + 1) PARTS) (Return (k + 1)) (Change 0) tt tt
  call-says ms (Change k) (TakeChange part bits) t m says = says-cond (Made (TakeChange part bits) t ∷ ms) (ltb (k + 1) PARTS) (Change (k + 1)) Count tt tt
  call-says ms Count (Finished n) t m says = tt
  call-says ms Arrive (Arrivals n) t m says =
      says-cond (Made (Arrivals n) t ∷ ms) (is_due D n (finished_by D ms)) (Scan 0) (pick D ms) tt
      (says-picked (Made (Arrivals n) t ∷ ms) (choice_of (strides_by D ms)) (ended_as (finished_by D ms) (sets_of D.shape D.subject)) (is-choice ms))
  call-says ms (Scan s) (ReserveGot k) t m says = tt
  call-says ms (Scan s) (ReserveTaken k word) t m says =
      says-cond (Made (ReserveTaken k word) t ∷ ms) (ltb (s + 1) D.shape.slots) (Scan (s + 1)) (pick D ms) tt
      (says-picked (Made (ReserveTaken k word) t ∷ ms) (choice_of (strides_by D ms)) (ended_as (finished_by D ms) (sets_of D.shape D.subject)) (is-choice ms))
  call-says ms Admit (AdmitGot q) t m says = tt
  call-says ms Admit (AdmitLost q now) t m says = tt
  call-says ms (Fill v) (SetTotal n) t m says = tt
  call-says ms (Fill v) (NoteDone n) t m says = tt
  call-says ms Opens (Install id) t m says = tt
  call-says ms Tells Announce t m says = says-told (Made Announce t ∷ ms) (moved D.shape Announce (place_by D ms))
  call-says ms FreeIt Release t m says = tt
  call-says ms (Enters s) (Enter k) t m says = says-entered ms s k t m says
  call-says ms Look (LookOpen id) t m says = says-let-in ms id t (lets_in D ms (id / STAGES)) refl says
  call-says ms Look LookInvalid t m says = tt
  call-says ms Look LookVacant t m says = tt
  call-says ms Early LeaveLeft t m says = tt
  call-says ms Early (LeaveOwe id) t m says = tt
  call-says ms Claim (ClaimRange n from to) t m says = tt
  call-says ms Claim (ClaimUsed n) t m says = says.in_range
  call-says ms Shut ShutWon t m says = tt
  call-says ms Shut ShutLost t m says = tt
  call-says ms Leave LeaveLeft t m says = says-asked (Made LeaveLeft t ∷ ms) D.shape.workers (moved D.shape LeaveLeft (place_by D ms))
  call-says ms Leave (LeaveOwe id) t m says = tt
  call-says ms Ask MarkMarked t m says = says-asked (Made MarkMarked t ∷ ms) D.shape.workers (moved D.shape MarkMarked (place_by D ms))
  call-says ms Ask MarkMissed t m says = says-asked (Made MarkMissed t ∷ ms) D.shape.workers (moved D.shape MarkMissed (place_by D ms))
  call-says ms Sweep SweepLast t m says = tt
  call-says ms Sweep (SweepOthers n) t m says = tt
  call-says ms Pay PayLast t m says = tt
  call-says ms Pay PayDone t m says = tt
  call-says ms (Fetch v) (NoteDone n) t m says =
      says-cond (Made (NoteDone n) t ∷ ms) (goes_on D.subject (held_at (place_by D ms)) n) (Fill 0) FreeIt tt tt
  call-says ms x a t m says = absurd m

  exchange-says : (ms : List Move) (x : Point) → MayExchange D x → Says ms x → Says (Exchanged ∷ ms) (exchanged x)
  exchange-says ms (Fill v) m says = tt
  exchange-says ms Take m says = says
  exchange-says ms Back m says = tt
  exchange-says ms (Fetch v) m says = tt
  exchange-says ms x m says = absurd m

  -- ---- calls of a stride set

  drop-lawful : (ms : List Move) → slot_by D ms < (strides_by D ms).slots → AreLawful (strides_by D ms) (DropSlot (slot_by D ms) ∷ [])
  drop-lawful ms low = (low, tt)

  taken-lawful : (ms : List Move) (join : ℕ → Call) (part bits : ℕ) (pending : ℕ → Bool) → (strides_by D ms).slots ≡ D.shape.slots
      → ((s : ℕ) → s < (strides_by D ms).slots → IsJoin (strides_by D ms).slots (join s)) → IsMask part pending bits
      → ((s : ℕ) → pending s ≡ true → s < D.shape.slots) → AreLawful (strides_by D ms) (joins join 64 part bits)
  taken-lawful ms join part bits pending slots one mask low =
      joins-lawful (joins join 64 part bits) (strides_by D ms)
      (are-joins (strides_by D ms).slots join one part bits 64 (omega arith)
      (bits-low (strides_by D ms).slots part bits pending mask (λ s is. let l = low s is in omega (arith, l, slots))))

  calls-lawful : (S : ObjectState) (ms : List Move) (x : Point) (a : Act) (t : ℕ) → MayCall D ms x a → IsAllowed D.shape S D.worker a → IsWithin D.shape S
      → (strides_by D ms).slots ≡ D.shape.slots → Says ms x → AreLawful (strides_by D ms) (calls_of D a t ms)
  calls-lawful S ms x (TakeReturn part bits) t m ok in_ slots says =
      taken-lawful ms JoinReturn part bits (S.returns D.worker) slots (λ s low. low) ok.1 (in_.returns D.worker)
  calls-lawful S ms x (TakeChange part bits) t m ok in_ slots says =
      taken-lawful ms JoinChange part bits (S.changes D.worker) slots (λ s low. low) ok.1 (in_.changes D.worker)
  calls-lawful S ms (Enters s) (Enter k) t m ok in_ slots says = (subst (IsChoice (strides_by D ms)) (sym m) says, tt)
  calls-lawful S ms x (Enter k) t m ok in_ slots says = absurd m
  calls-lawful S ms Look (LookOpen id) t m ok in_ slots says =
      cond_both (lets_in D ms (id / STAGES)) [] (DropSlot (slot_by D ms) ∷ []) (AreLawful (strides_by D ms)) (λ lets. tt) (λ not. drop-lawful ms says.in_range)
  calls-lawful S ms x (LookOpen id) t m ok in_ slots says = absurd m
  calls-lawful S ms Look LookInvalid t m ok in_ slots says = drop-lawful ms says.in_range
  calls-lawful S ms x LookInvalid t m ok in_ slots says = absurd m
  calls-lawful S ms Look LookVacant t m ok in_ slots says = drop-lawful ms says.in_range
  calls-lawful S ms x LookVacant t m ok in_ slots says = absurd m
  calls-lawful S ms Claim (ClaimRange n from to) t m ok in_ slots says = (says, tt)
  calls-lawful S ms x (ClaimRange n from to) t m ok in_ slots says = absurd m
  calls-lawful S ms Shut ShutWon t m ok in_ slots says = drop-lawful ms says
  calls-lawful S ms x ShutWon t m ok in_ slots says = absurd m
  calls-lawful S ms Shut ShutLost t m ok in_ slots says = drop-lawful ms says
  calls-lawful S ms x ShutLost t m ok in_ slots says = absurd m
  calls-lawful S ms x a t m ok in_ slots says = tt

  -- ---- the passes of a worker

  record AreFair (ms : List Move) : Type 0 where
    slots : (strides_by D ms).slots ≡ D.shape.slots
    bounded : IsBounded (strides_by D ms)
    says : Says ms (point_by D ms)

  -- where a call of the worker stands in a history
  split-own : (h : List Entry) (a : Act) (rest : List Entry) → IsLegal D.shape h → own_calls D.worker h ≡ entry D.worker a ∷ rest
      → (es : List Entry) × IsLegal D.shape (entry D.worker a ∷ es) × (own_calls D.worker es ≡ rest)
  split-own [] a rest legal is = absurd (cc)
  split-own (e ∷ es) a rest legal is = dite (ℕ_discrete D.worker e.worker)
      (λ same.
      let own : e ∷ own_calls D.worker es ≡ entry D.worker a ∷ rest = sym (own-mine e es D.worker same) ∙ is in
      (es, subst (λ f. IsLegal D.shape (f ∷ es)) (ap (first_of e) own) legal, ap rest_of own))
      (λ other. split-own es a rest legal.2 (sym (own-other e es D.worker other) ∙ is))

  fair-after : (ms : List Move) (h : List Entry) → IsLegal D.shape h → own_calls D.worker h ≡ entries D.worker ms → AreDriven D ms → AreFair ms
  fair-after [] h legal mine driven = record { slots = refl; bounded = new_strides-bounded D.shape.slots; says = tt }
  fair-after (Made a t ∷ ms) h legal mine driven =
      let at = split-own h a (entries D.worker ms) legal mine in
      let before : AreFair ms = fair-after ms at.0 at.1.2 at.2 driven.1 in
      let lawful : AreLawful (strides_by D ms) (calls_of D a t ms) =
      calls-lawful (state_after D.shape at.0) ms (point_by D ms) a t driven.0 at.1.1 (within D.shape at.0 at.1.2) before.slots before.says in
      record {
        slots = slots-kept (calls_of D a t ms) (strides_by D ms) ∙ before.slots;
        bounded = fold-bounded (calls_of D a t ms) (strides_by D ms) before.bounded lawful;
        says = call-says ms (point_by D ms) a t driven.0 before.says;
      }
  fair-after (Exchanged ∷ ms) h legal mine driven =
      let before : AreFair ms = fair-after ms h legal mine driven.1 in
      record { slots = before.slots; bounded = before.bounded; says = exchange-says ms (point_by D ms) driven.0 before.says }

pub workers-are-fair : WorkersAreFair
workers-are-fair d load run w played low =
    (fair-after (desk_at d load w) (run.team w) run.history played.legal (played.mine w low) (played.driven w low)).bounded.widest
