-- What the calls of a visit do to what a worker keeps, by the moves.
use Rattle.std.proofs.Common.{◌≡◌, ◌≢◌, ℕ, ◌+◌, ◌/◌, ◌<◌, Bool, true, false, ◌&&◌, cond, eqb, List, [], ◌∷◌, Option, Some, None, refl, sym, ap, ap₂, ◌∙◌, subst}
use Rattle.std.proofs.Common.{◌⊎◌, inl, inr, ◌≤◌, get_or, ◌++◌, ◌-◌, ◌^◌, min, max, length, slice_get, slice_set, unwrap_or, lt-ltb, le-ltb, eq-eqb}
use Rattle.std.proofs.Common.{ne_eqb, eqb-true, arith}
use Rattle.std.specs.Prelude.{fold}
use Rattle.std.specs.Option.{option_map}
use Rattle.std.proofs.lemmas.Option.{slice_get_cases}
use native.Mathlib.Decide.{ℕ_discrete}
use Rattle.slot_history.specs.declared.shape.TheConstants.{STAGES}
use Rattle.slot_history.specs.declared.act.Act.{Act}
use Rattle.slot_history.specs.declared.act.Act.TheVariants as act
use Rattle.slot_history.specs.declared.place.Place.{Place}
use Rattle.slot_history.specs.declared.place.Place.TheVariants as place
use Rattle.slot_history.specs.States.{NoticeRecord, slot_of, id_at}
use Rattle.slot_history.specs.Steps.{moved, dropped, looked, looked_group}
use Rattle.slot_history.specs.Histories.{IsLegal, entry}
use Rattle.stride_set.specs.Strides.{Strides, DropSlot, Advance, strides_of, stride_after}
use Rattle.prio_decay.specs.declared.TheConstants.{QUANTUM_NS}
use Rattle.prio_decay.specs.declared.Params.{Params}
use Rattle.prio_decay.specs.Priority.{HasSpent, Spending, after_spending, priority_after, unspent}
use Rattle.morsel_size.specs.Sizing.{Sizing, pace_after, pace_of, size_at}
use Rattle.slot_station.specs.declared.token.Coordinator.{Coordinator}
use Rattle.slot_station.specs.declared.reply.Mark.{Mark}
use Rattle.slot_station.specs.declared.reply.Mark.TheVariants as mark
use Rattle.slot_station.specs.Desks.{Desk, Seen, Makes, own_place}
use Rattle.slot_station.specs.Tokens.{IsFirst}
use Rattle.slot_station.specs.Replies.{mark_act, marked_coordinator}
use Rattle.slot_station.proofs.Lists.{get-set_same, get-set_other}
use Rattle.turn_model.specs.Workloads.{Workload}
use Rattle.turn_model.specs.Moves.{Move, Made}
use Rattle.turn_model.specs.Told.{Told, Kept, Sized, KeepsSlot, told_by, past_by}
use Rattle.turn_model.specs.Learned.{allows, params_of, place_by, slot_by, query_by, lets_in, record_by, strides_by, let_in_by, priority_in, time_in}
use Rattle.turn_model.specs.Points as point
use Rattle.turn_model.specs.Points.{asked}
use Rattle.turn_model.specs.Driven.{MayCall, size_by}
use Rattle.turn_model.specs.Runs.{IsTimedCall}
use Rattle.turn_model.specs.Fitting.{Range}
use Rattle.turn_model.specs.OneSlot.{AreMovesIn}
use Rattle.turn_model.specs.Keeping.{is_number, fresh_sized, settled, spent_on}
use Rattle.turn_model.proofs.Keeping.{looks-keep, ranges-keep}
use Rattle.turn_model.proofs.Fitting.{size-fits}
use Rattle.bench_cell.specs.declared.plan.Plan.{Plan}
use Rattle.bench_cell.specs.declared.bench.Bench.{Bench}
use Rattle.bench_cell.specs.Plans.{total_of}
use Rattle.worker_machine.specs.declared.kept.Core.{Core}
use Rattle.worker_machine.specs.declared.kept.Known.{Known}
use Rattle.worker_machine.specs.declared.phase.Phase.{Phase}
use Rattle.worker_machine.specs.declared.phase.Phase.TheVariants as phase
use Rattle.worker_machine.specs.Outcomes.{IsAsked}
use Rattle.worker_machine.specs.Loads.{load_of, model_desk}
use Rattle.worker_machine.specs.PointsOf.{point_of}
use Rattle.worker_machine.specs.Keeps.{HasMade, Knows, KeepsRest, chosen, kept_of, standing}
use Rattle.worker_machine.specs.Knowing.{AreSpentOn, IsPriorityOf, SharesCount, WorkedOn}
use Rattle.turn_model.specs.Shares.{Worked}
use Rattle.turn_model.specs.Shares.{AscendWithin, counted, range_done, shares_by}
use Rattle.worker_machine.specs.Counting.{HasShares}
use Rattle.turn_model.proofs.Counting.{counted-ascends}
use Rattle.worker_machine.proofs.Moving.{IsQuiet, group-on, keeps-on, place-made}

-- ---- the asking of a coordinator

pub asked-chosen : (c : Coordinator) (p : Phase) → IsAsked c p → (st : Strides) → chosen p st ≡ st
asked-chosen c (phase.Ask d) ok st = refl
asked-chosen c (phase.Sweep d) ok st = refl
asked-chosen c p ok st = absurd (ok)

asked-point : (n m s id : ℕ) (c : Coordinator) (p : Phase) → IsAsked c p → c.workers ≡ n → c.asked < n
    → point_of n p ≡ asked n (place.Asking s id c.asked m)
asked-point n m s id c (phase.Ask d) ok same low =
    let differs = ok.1 in
    sym (ap (λ b. cond b point.Ask point.Sweep) (lt-ltb (c.asked + 1) n (omega (arith, same, differs, low))))
asked-point n m s id c (phase.Sweep d) ok same low =
    let last = ok.1 in
    sym (ap (λ b. cond b point.Ask point.Sweep) (le-ltb (c.asked + 1) n (omega (arith, same, last))))
asked-point n m s id c p ok same low = absurd (ok)

-- whoever shut the task set has left the slot
pub first-asked : (D : Desk Workload) (ms : List Move) (at : Place) (c : Coordinator) (p : Phase) → IsAsked c p → IsFirst D.shape D.worker at c
    → at ≡ place_by D ms → 0 < D.shape.workers
    → point_of D.shape.workers p ≡ asked D.shape.workers (moved D.shape act.LeaveLeft (place_by D ms))
first-asked D ms at c p ok first same some =
    let zero = first.asked in
    asked-point D.shape.workers 0 c.slot c.id c p ok first.workers (omega (arith, some, zero))
    ∙ ap (λ k. asked D.shape.workers (place.Asking c.slot c.id k 0)) first.asked
    ∙ sym (ap (λ (x : Place). asked D.shape.workers (moved D.shape act.LeaveLeft x)) (sym same ∙ first.place))

-- one more worker was asked
pub mark-quiet : (may_take : ℕ → ℕ → ℕ → Type 0) (D : Desk Workload) (reply : Mark) (ms : List Move) → IsQuiet may_take D (mark_act reply) ms
mark-quiet may_take D mark.Marked ms = (refl, refl, refl)
mark-quiet may_take D mark.Missed ms = (refl, refl, refl)

pub mark-moves : (D : Desk Workload) (ms : List Move) (reply : Mark) {core : Core} (c : Coordinator) (p : Phase)
    → place_by D ms ≡ place.Asking c.slot c.id c.asked c.marked → c.workers ≡ D.shape.workers → c.asked + 1 < D.shape.workers
    → IsAsked (marked_coordinator reply c) p → Knows D (told_by D ms) core (phase.Ask c)
    → MayCall D ms point.Ask (mark_act reply) × Knows D (told_by D (Made (mark_act reply) 0 ∷ ms)) core p
    × (point_of D.shape.workers p ≡ point.after D ms point.Ask (mark_act reply))
mark-moves D ms mark.Marked c p at same low ok k = (
  tt,
  keeps-on k (sym (asked-chosen (marked_coordinator mark.Marked c) p ok (strides_by D ms))),
  asked-point D.shape.workers (c.marked + 1) c.slot c.id (marked_coordinator mark.Marked c) p ok same low
      ∙ sym (ap (λ (x : Place). asked D.shape.workers (moved D.shape act.MarkMarked x)) at),
)
mark-moves D ms mark.Missed c p at same low ok k = (
  tt,
  keeps-on k (sym (asked-chosen (marked_coordinator mark.Missed c) p ok (strides_by D ms))),
  asked-point D.shape.workers (c.marked + 0) c.slot c.id (marked_coordinator mark.Missed c) p ok same low
      ∙ sym (ap (λ (x : Place). asked D.shape.workers (moved D.shape act.MarkMissed x)) at),
)

-- ---- a slot that is dropped

-- moves tell the same as before, but for passes
pub record TellsSame (old new : Told) : Type 0 where
  pub finished : old.finished ≡ new.finished
  pub arrived : old.arrived ≡ new.arrived
  pub times : old.times ≡ new.times
  pub slot : (D : Desk Workload) (s : ℕ) (kept : Kept) → KeepsSlot D old.past s kept → KeepsSlot D new.past s kept

-- what is known of slots stays
pub known-items : {core core' : Core} → KeepsRest core core' → core'.known.items ≡ core.known.items
known-items {core} {core'} rest = rw rest.known refl

pub same-knows : {D : Desk Workload} {old new : Told} {core core' : Core} {phase phase' : Phase} → Knows D old core phase → TellsSame old new
    → KeepsRest core core' → strides_of core'.strides ≡ chosen phase' new.strides → Knows D new core' phase'
same-knows {D} {old} {new} {core} {core'} k same rest strides = record {
  strides = strides;
  finished = rest.finished ∙ k.finished ∙ same.finished;
  arrived = rest.arrived ∙ k.arrived ∙ same.arrived;
  times = rest.times ∙ k.times ∙ same.times;
  slots = λ s known got. same.slot D s (kept_of known) (k.slots s known (subst (λ l. slice_get l s ≡ Some known) (known-items rest) got));
}

dropped-group : (b : Bool) (r : NoticeRecord) → (cond b (dropped r) r).group ≡ r.group
dropped-group true r = refl
dropped-group false r = refl

-- a shut tells nothing else, and a look at a slot that is not open tells the same
shut-same : (D : Desk Workload) (ms : List Move) → TellsSame (told_by D ms) (told_by D (Made act.ShutLost 0 ∷ ms))
shut-same D ms = record {
  finished = refl;
  arrived = refl;
  times = refl;
  slot = λ E s kept k. group-on k (k.group ∙ sym (dropped-group (eqb s (slot_by D ms)) (record_by D s ms))) refl (λ q. refl) (λ id. (refl, refl));
}

-- the passes once the slot at which the worker is was dropped
abbrev slot-dropped : Desk Workload → List Move → Strides
slot-dropped D ms = stride_after (strides_by D ms) (DropSlot (slot_by D ms))

pub dropped-strides : (D : Desk Workload) (ms : List Move) (s : ℕ) (at : Place) (old new : Strides) → at ≡ place_by D ms → slot_of at ≡ s
    → old ≡ strides_by D ms → new ≡ stride_after old (DropSlot s) → new ≡ slot-dropped D ms
dropped-strides D ms s at old new same is before after =
    after ∙ ap₂ (λ (x : Strides) (k : ℕ). stride_after x (DropSlot k)) before (sym is ∙ ap slot_of same)

module _ {O : Type 0} (seen : Seen O Plan) {core core' : Core} {phase phase' : Phase} {s : ℕ} (ms : List Move) (h : HasMade (standing core phase seen) ms)
    (at : slot_of (own_place seen) ≡ s) (before : strides_of core.strides ≡ strides_by (model_desk seen.desk) ms) where
  -- what is kept then
  pub drop-knows : {told : Told} → TellsSame (told_by (model_desk seen.desk) ms) told → slot-dropped (model_desk seen.desk) ms ≡ chosen phase' told.strides
      → KeepsRest core core' → strides_of core'.strides ≡ stride_after (strides_of core.strides) (DropSlot s) → Knows (model_desk seen.desk) told core' phase'
  drop-knows same is rest after =
      same-knows h.knows same rest
      (dropped-strides (model_desk seen.desk) ms s (own_place seen) (strides_of core.strides) (strides_of core'.strides) (place-made seen ms h) at before after
      ∙ is)

  pub shut-knows : slot-dropped (model_desk seen.desk) ms ≡ chosen phase' (slot-dropped (model_desk seen.desk) ms) → KeepsRest core core'
      → strides_of core'.strides ≡ stride_after (strides_of core.strides) (DropSlot s)
      → Knows (model_desk seen.desk) (told_by (model_desk seen.desk) (Made act.ShutLost 0 ∷ ms)) core' phase'
  shut-knows = drop-knows (shut-same (model_desk seen.desk) ms)

-- ---- a look at an open slot

either-dropped : (b : Bool) (r : NoticeRecord) → (cond b r (dropped r)).group ≡ r.group
either-dropped true r = refl
either-dropped false r = refl

-- the group of a record that did not let the worker in
unlooked : (r : NoticeRecord) (q : ℕ) (g : Option ℕ) → r.group ≡ g → allows g q ≡ false → (looked q r).group ≡ r.group
unlooked r q None is not = absurd (cc)
unlooked r q (Some g) is not = ap (λ (x : Option ℕ). (looked_group x q r).group) is ∙ either-dropped (eqb g q) r

unlooked-here : (b : Bool) (r : NoticeRecord) (q : ℕ) → (b ≡ true → allows r.group q ≡ false) → (cond b (looked q r) r).group ≡ r.group
unlooked-here true r q not = unlooked r q r.group refl (not refl)
unlooked-here false r q not = refl

not-let-in : {A : Type 0} (b c : Bool) (x y : A) → c ≡ false → cond (b && c) x y ≡ y
not-let-in true true x y e = absurd (cc)
not-let-in true false x y e = refl
not-let-in false c x y e = refl

module _ (D : Desk Workload) (ms : List Move) (id : ℕ) where
  pub shut-out : lets_in D ms (id / STAGES) ≡ false → TellsSame (told_by D ms) (told_by D (Made (act.LookOpen id) 0 ∷ ms))
  shut-out not = record {
    finished = refl;
    arrived = refl;
    times = refl;
    slot = λ E s kept k. group-on k
        (k.group ∙ sym (unlooked-here (eqb s (slot_by D ms)) (record_by D s ms) (id / STAGES)
        (λ e. ap (λ j. allows (record_by D j ms).group (id / STAGES)) (eqb-true s (slot_by D ms) e) ∙ not)))
        (sym (not-let-in (eqb (slot_by D ms) s) (lets_in D ms (id / STAGES)) (Some id) (let_in_by D s ms) not)) (λ q. refl) (λ i. (refl, refl));
  }

  pub look-strides : (b : Bool) → lets_in D ms (id / STAGES) ≡ b
      → strides_by D (Made (act.LookOpen id) 0 ∷ ms) ≡ cond b (strides_by D ms) (stride_after (strides_by D ms) (DropSlot (slot_by D ms)))
  look-strides true is = ap (λ b. fold stride_after (strides_by D ms) (cond b [] (DropSlot (slot_by D ms) ∷ []))) is
  look-strides false is = ap (λ b. fold stride_after (strides_by D ms) (cond b [] (DropSlot (slot_by D ms) ∷ []))) is

  -- what the worker keeps of the slot says whether it is let in
  pub lets-by : (s : ℕ) (at : Place) (kept : Kept) → at ≡ place_by D ms → slot_of at ≡ s → KeepsSlot D (past_by D ms) s kept
      → lets_in D ms (id / STAGES) ≡ allows kept.group (id / STAGES)
  lets-by s at kept same is k =
      ap (λ j. allows (record_by D j ms).group (id / STAGES)) (ap slot_of (sym same) ∙ is) ∙ ap (λ g. allows g (id / STAGES)) (sym k.group)

-- the moves are those of the history before the call
module _ {O : Type 0} {old new : Seen O Plan} {core : Core} {p : Phase} {a : Act} (m : Makes total_of a old new) (ms : List Move)
    (h : HasMade (standing core p old) ms) where
  pub legal-on : IsLegal old.desk.shape (entry old.desk.worker a ∷ m.called.0)
  legal-on = subst (IsLegal old.desk.shape) m.called.1 m.called.4

  pub moves-in : AreMovesIn (model_desk old.desk) m.called.0 ms
  moves-in = record { legal = legal-on.2; driven = h.driven; mine = m.called.3 ∙ h.mine }

pub some-is : {A : Type 0} (x y : A) → Some x ≡ Some y → x ≡ y
some-is x y e = ap (λ o. unwrap_or o x) e

-- a change at one place of a list
pub at-one : {A : Type 0} (P : ℕ → A → Type 0) (l : List A) (s : ℕ) (x : A) → s < length l → P s x
    → ((j : ℕ) (y : A) → j ≢ s → slice_get l j ≡ Some y → P j y) → (j : ℕ) (y : A) → slice_get (slice_set l s x) j ≡ Some y → P j y
at-one P l s x low here else j y got = by (ℕ_discrete j s) where
  by : Dec (j ≡ s) → P j y
  by (yes e) = subst (P j) (some-is x y (sym (get-set_same l s x low) ∙ ap (slice_get (slice_set l s x)) (sym e) ∙ got)) (subst (λ i. P i x) (sym e) here)
  by (no n) = else j y n (sym (get-set_other l s j x n) ∙ got)

-- the worker was let in
module _ {O : Type 0} {old new : Seen O Plan} {core : Core} {s id : ℕ} (m : Makes total_of (act.LookOpen id) old new) (ms : List Move)
    (h : HasMade (standing core (phase.Look s) old) ms) (at : own_place old ≡ place.Entered s)
    (lets : lets_in (model_desk old.desk) ms (id / STAGES) ≡ true) where
  same-slot : slot_by (model_desk old.desk) ms ≡ s
  same-slot = ap slot_of (sym (place-made old ms h) ∙ at)

  pub let-in-slots : (known known' : Known) → s < length core.known.items → slice_get core.known.items s ≡ Some known
      → kept_of known' ≡ settled (model_desk old.desk) id (kept_of known) → (j : ℕ) (x : Known) → slice_get (slice_set core.known.items s known') j ≡ Some x
      → KeepsSlot (model_desk old.desk) (past_by (model_desk old.desk) (Made (act.LookOpen id) 0 ∷ ms)) j (kept_of x)
  let-in-slots known known' low got is =
      at-one (λ j x. KeepsSlot D (past_by D (Made (act.LookOpen id) 0 ∷ ms)) j (kept_of x)) core.known.items s known' low
      (subst (KeepsSlot D (past_by D (Made (act.LookOpen id) 0 ∷ ms)) s) (ap (λ b. cond b (settled D id (kept_of known)) (kept_of known))
      (eq-eqb s (slot_by D ms) (sym same-slot)) ∙ sym is)
      (looks-keep D m.called.0 ms id 0 s (kept_of known) (moves-in m ms h) (legal-on m ms h) lets (h.knows.slots s known got)))
      (λ j x n g. subst (KeepsSlot D (past_by D (Made (act.LookOpen id) 0 ∷ ms)) j)
      (ap (λ b. cond b (settled D id (kept_of x)) (kept_of x)) (ne_eqb j (slot_by D ms) (λ e. n (e ∙ same-slot))))
      (looks-keep D m.called.0 ms id 0 j (kept_of x) (moves-in m ms h) (legal-on m ms h) lets (h.knows.slots j x g))) where
        D : Desk Workload
        D = model_desk old.desk

-- ---- what is settled

settled-decay : (o : Option ℕ) (q : ℕ) {A : Type 0} (x y z : A) → (o ≡ Some q → z ≡ x) → (o ≢ Some q → z ≡ y) → z ≡ cond (is_number o q) x y
settled-decay None q x y z same other = other (λ e. absurd (cc))
settled-decay (Some k) q x y z same other = by (eqb k q) refl where
  by : (b : Bool) → eqb k q ≡ b → z ≡ cond (eqb k q) x y
  by true e = same (ap Some (eqb-true k q e)) ∙ sym (ap (λ b. cond b x y) e)
  by false e = other (λ is. let f : eqb k q ≡ true = eq-eqb k q (some-is k q is) in absurd (cc)) ∙ sym (ap (λ b. cond b x y) e)

abbrev kept-with : Option ℕ → Option ℕ → Spending → Option ℕ → Sized → Kept
kept-with group query decay id sized = record { group = group; query = query; decay = decay; id = id; sized = sized }

settled-as : (D : Desk Workload) (id : ℕ) (old new : Known) → new.group ≡ Some (id / STAGES) → new.query ≡ Some (id / STAGES)
    → new.decay ≡ cond (is_number old.query (id / STAGES)) old.decay (unspent (params_of (D.subject.weight (id / STAGES)))) → new.id ≡ Some id
    → (kept_of new).sized ≡ cond (is_number old.id id) (kept_of old).sized (fresh_sized D.shape.workers) → kept_of new ≡ settled D id (kept_of old)
settled-as D id old new group query decay task sized =
    ap (λ x. kept-with x new.query new.decay new.id (kept_of new).sized) group
    ∙ ap (λ x. kept-with (Some (id / STAGES)) x new.decay new.id (kept_of new).sized) query
    ∙ ap (λ x. kept-with (Some (id / STAGES)) (Some (id / STAGES)) x new.id (kept_of new).sized) decay
    ∙ ap (λ x. kept-with (Some (id / STAGES)) (Some (id / STAGES)) (settled D id (kept_of old)).decay x (kept_of new).sized) task
    ∙ ap (λ x. kept-with (Some (id / STAGES)) (Some (id / STAGES)) (settled D id (kept_of old)).decay (Some id) x) sized

sized-is : (known : Known) (sizing : Sizing) (end : ℕ) → known.sizer ≡ sizing → known.last_end ≡ end
    → (kept_of known).sized ≡ record { sizing = sizing; end = end }
sized-is known sizing end same at = cc

-- the decay and the sizer are made anew if they are of another query, or of another task set
pub settled-by : (D : Desk Plan) (plan : Plan) (workers id : ℕ) (old new : Known) → plan ≡ D.subject → workers ≡ D.shape.workers
    → new.group ≡ Some (id / STAGES) → new.query ≡ Some (id / STAGES) → new.id ≡ Some id
    → (old.query ≡ Some (id / STAGES) → new.decay ≡ old.decay)
    → (old.query ≢ Some (id / STAGES) → new.decay ≡ unspent (params_of ((load_of plan).weight (id / STAGES))))
    → (old.id ≡ Some id → (new.sizer ≡ old.sizer) × (new.last_end ≡ old.last_end))
    → (old.id ≢ Some id → (new.sizer ≡ record { workers = workers; pace = pace_of [] }) × (new.last_end ≡ 0))
    → kept_of new ≡ settled (model_desk D) id (kept_of old)
settled-by D plan workers id old new plan-is workers-are group query task kept-decay fresh-decay kept-sizer fresh-sizer =
    settled-as (model_desk D) id old new group query
    (settled-decay old.query (id / STAGES) old.decay (unspent (params_of ((load_of D.subject).weight (id / STAGES)))) new.decay kept-decay
    (λ n. fresh-decay n ∙ ap (λ (p : Plan). unspent (params_of ((load_of p).weight (id / STAGES)))) plan-is)) task
    (settled-decay old.id id (kept_of old).sized (fresh_sized D.shape.workers) (kept_of new).sized
    (λ e. sized-is new old.sizer old.last_end (kept-sizer e).0 (kept-sizer e).1)
    (λ n. sized-is new (record { workers = workers; pace = pace_of [] }) 0 (fresh-sizer n).0 (fresh-sizer n).1 ∙ ap fresh_sized workers-are))

-- ---- a range

abbrev worked-of : ℕ → ℕ → ℕ → ℕ → ℕ → Worked
worked-of worker query tuples ns priority = record { worker = worker; query = query; tuples = tuples; ns = ns; priority = priority }

-- where the worker claims
module _ {O : Type 0} (seen : Seen O Plan) {core : Core} {s id : ℕ} {b : Bench} (ms : List Move) (h : HasMade (standing core (phase.Claim s id b) seen) ms)
    (at : own_place seen ≡ place.Inside s id) (known : Known) (got : slice_get core.known.items s ≡ Some known) (of : known.id ≡ Some id) where
  inside : place_by (model_desk seen.desk) ms ≡ place.Inside s id
  inside = sym (place-made seen ms h) ∙ at

  pub query-here : query_by (model_desk seen.desk) ms ≡ id / STAGES
  query-here = ap (λ (p : Place). id_at p / STAGES) inside

  pub claim-size : (total : ℕ) → total_of seen.desk.subject id ≡ Some total
      → size_by (model_desk seen.desk) ms ≡ size_at known.sizer.workers known.sizer.pace (total - known.last_end)
  claim-size total tot = size-fits (model_desk seen.desk) ms s id total (kept_of known).sized inside tot ((h.knows.slots s known got).sizer id of)

  query-is : known.query ≡ Some (id / STAGES)
  query-is = let k = h.knows.slots s known got in k.query ∙ ap (option_map (λ i. i / STAGES)) (sym k.id ∙ of)

  priority-is : (p : ℕ) → ((total : ℕ) → HasSpent known.decay total → p ≡ priority_after known.decay.params (total / QUANTUM_NS))
      → p ≡ priority_in (model_desk seen.desk) (id / STAGES) ms
  priority-is p is =
      let k = (h.knows.slots s known got).decay (id / STAGES) query-is in
      is (time_in (model_desk seen.desk) (id / STAGES) ms) k.spent
      ∙ ap (λ (x : Params). priority_after x (time_in (model_desk seen.desk) (id / STAGES) ms / QUANTUM_NS)) k.params

  pub range-knows : {new : Seen O Plan} {core' : Core} {n from to t p : ℕ} {b' : Bench} → Makes total_of (act.ClaimRange n from to) seen new
      → WorkedOn (record { slot = s; from = from; to = to; time = t; priority = p }) core core'
      → Knows (model_desk seen.desk) (told_by (model_desk seen.desk) (Made (act.ClaimRange n from to) t ∷ ms)) core' (phase.Back None b')
  range-knows {new} {core'} {n} {from} {to} {t} {p} {b'} m w =
      let D : Desk Workload = model_desk seen.desk in
      let range : Range = record { slot = s; from = from; to = to; time = t; priority = p } in
      record {
        strides = w.strides ∙ ap₂ (λ (x : Strides) (q : ℕ). stride_after x (Advance s t q)) h.knows.strides (priority-is p (w.priority known got))
            ∙ sym (ap (λ (x : Place). stride_after (strides_by D ms) (Advance (slot_of x) t (priority_in D (id_at x / STAGES) ms))) inside);
        finished = w.finished ∙ h.knows.finished;
        arrived = w.arrived ∙ h.knows.arrived;
        times = w.times ∙ ap (λ l. l ++ t ∷ []) h.knows.times;
        slots = λ j x g. let was = w.known j x g in subst (KeepsSlot D (past_by D (Made (act.ClaimRange n from to) t ∷ ms)) j) (sym was.2)
            (ranges-keep D m.called.0 ms id n j range (kept_of was.0) (moves-in m ms h) (sym h.point) inside (h.knows.slots j was.0 was.1));
      }

  pub spent-priority : {new : Seen O Plan} (core' : Core) {n from to t p p' : ℕ} → Makes total_of (act.ClaimRange n from to) seen new
      → WorkedOn (record { slot = s; from = from; to = to; time = t; priority = p }) core core' → (known' : Known)
      → slice_get core'.known.items s ≡ Some known' → IsPriorityOf known' p'
      → p' ≡ priority_in (model_desk seen.desk) (id / STAGES) (Made (act.ClaimRange n from to) t ∷ ms)
  spent-priority {new} core' {n} {from} {to} {t} {p} {p'} m w known' got' is =
      let D : Desk Workload = model_desk seen.desk in
      let after = (range-knows {b' = b} m w).slots s known' got' in
      let task : let_in_by D s ms ≡ Some id = sym (h.knows.slots s known got).id ∙ of in
      let k = after.decay (id / STAGES) (after.query ∙ ap (option_map (λ i. i / STAGES)) task) in
      is (time_in D (id / STAGES) (Made (act.ClaimRange n from to) t ∷ ms)) k.spent
      ∙ ap (λ (x : Params). priority_after x (time_in D (id / STAGES) (Made (act.ClaimRange n from to) t ∷ ms) / QUANTUM_NS)) k.params

  pub range-shares : (core' : Core) (n from to t p : ℕ) → HasShares seen.desk.shape.queries (shares_by (model_desk seen.desk) ms) core.shares
      → core.worker ≡ seen.desk.worker → id / STAGES < seen.desk.shape.queries
      → p ≡ priority_in (model_desk seen.desk) (id / STAGES) (Made (act.ClaimRange n from to) t ∷ ms)
      → SharesCount (record { worker = core.worker; query = id / STAGES; tuples = to - from; ns = t; priority = p }) core core'
      → HasShares seen.desk.shape.queries (shares_by (model_desk seen.desk) (Made (act.ClaimRange n from to) t ∷ ms)) core'.shares
  range-shares core' n from to t p has worker low priority counts =
      let D : Desk Workload = model_desk seen.desk in
      let range : Worked = worked-of core.worker (id / STAGES) (to - from) t p in
      let same : range ≡ range_done D from to t ms =
      ap (λ w. worked-of w (id / STAGES) (to - from) t p) worker
      ∙ ap (λ q. worked-of D.worker q (to - from) t p) (sym query-here)
      ∙ ap (λ x. worked-of D.worker (query_by D ms) (to - from) t x)
      (priority ∙ ap (λ q. priority_in D q (Made (act.ClaimRange n from to) t ∷ ms)) (sym query-here)) in
      let is = counts.counts seen.desk.shape.queries has.ascend low has.room in
      let more = counts.room in
      let before = has.room in
      record {
        are = is ∙ ap (counted range) has.are ∙ ap (λ r. counted r (shares_by D ms)) same;
        ascend = subst (AscendWithin 0 seen.desk.shape.queries) (sym is)
            (counted-ascends range 0 seen.desk.shape.queries core.shares.items (omega arith) low has.ascend);
        room = omega (arith, before, more);
      }

  pub range-timed : (may_take : ℕ → ℕ → ℕ → Type 0) (n from to t ns cost : ℕ) → may_take (to - from) cost ns → cost ≡ (load_of seen.desk.subject).cost (id / STAGES)
      → t ≡ max 1 (min ns (2 ^ 36)) → IsTimedCall may_take (model_desk seen.desk).subject (query_by (model_desk seen.desk) ms) (act.ClaimRange n from to) t
  range-timed may_take n from to t ns cost took is at-most =
      (ns, subst (λ x. may_take (to - from) x ns) (is ∙ sym (ap (load_of seen.desk.subject).cost query-here)) took, at-most)

spent-kept : (known known' : Known) (range : Range) → known'.group ≡ known.group → known'.query ≡ known.query → known'.id ≡ known.id
    → known'.decay ≡ after_spending known.decay range.time
    → known'.sizer ≡ record known.sizer { pace = pace_after known.sizer.pace (range.to - range.from) range.time } → known'.last_end ≡ range.to
    → kept_of known' ≡ spent_on range (kept_of known)
spent-kept known known' range group query task decay sizer end = cc

-- what is known of the range's slot alone changes
pub spent-known : (l : List Known) (known known' : Known) (range : Range) → range.slot < length l → slice_get l range.slot ≡ Some known
    → known'.group ≡ known.group → known'.query ≡ known.query → known'.id ≡ known.id
    → known'.decay ≡ after_spending known.decay range.time
    → known'.sizer ≡ record known.sizer { pace = pace_after known.sizer.pace (range.to - range.from) range.time } → known'.last_end ≡ range.to
    → AreSpentOn range l (slice_set l range.slot known')
spent-known l known known' range low got group query task decay sizer end =
    at-one
    (λ j y. (before : Known) × (slice_get l j ≡ Some before) × (kept_of y ≡ cond (eqb j range.slot) (spent_on range (kept_of before)) (kept_of before)))
    l range.slot known' low (
      known,
      got,
      spent-kept known known' range group query task decay sizer end
          ∙ sym (ap (λ b. cond b (spent_on range (kept_of known)) (kept_of known)) (eq-eqb range.slot range.slot refl)),
    )
    (λ j y n g. (y, g, sym (ap (λ b. cond b (spent_on range (kept_of y)) (kept_of y)) (ne_eqb j range.slot n))))

-- each slot is known
pub known-at : (l : List Known) (s : ℕ) → s < length l → (known : Known) × (slice_get l s ≡ Some known)
known-at l s low = at (slice_get_cases l s).1 where
  at : ((k : Known) × (s < length l) × (slice_get l s ≡ Some k) × (get_or l s k ≡ k)) ⊎ ((length l ≤ s) × (slice_get l s ≡ None))
      → (known : Known) × (slice_get l s ≡ Some known)
  at (inl (k, w, got, rest)) = (k, got)
  at (inr (past, none)) = absurd (omega (arith, past, low))
