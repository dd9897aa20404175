-- One move of a worker, by the call that it makes.
use Rattle.std.proofs.lemmas.List.Elements.{All-push}
use Rattle.std.proofs.Common.{◌≡◌, ℕ, ◌/◌, Bool, true, false, if◌then◌else◌, List, [], ◌∷◌, ◌++◌, All, Option, slice_get, refl, sym, ap, ◌∙◌, subst}
use Rattle.std.specs.Option.{option_map}
use Rattle.std.specs.declared.vec.Vec.{Vec}
use Rattle.std.specs.Global.{Global}
use Rattle.report_text.specs.declared.report.Share.{Share}
use Rattle.report_text.specs.declared.replies.QueryReply.{QueryReply}
use Rattle.turn_model.specs.Reports.{IsReplyTo}
use Rattle.slot_history.specs.declared.shape.TheConstants.{STAGES}
use Rattle.prio_decay.specs.Priority.{HasSpent}
use Rattle.morsel_size.specs.Sizing.{pace_of}
use Rattle.slot_history.specs.declared.act.Act.{Act}
use Rattle.slot_history.specs.Histories.{entry, own_calls}
use Rattle.slot_history.proofs.Own.{own-mine}
use Rattle.stride_set.specs.Strides.{strides_of}
use Rattle.slot_station.specs.Desks.{Desk, Seen, Makes, KeepsTrail, own_place}
use Rattle.turn_model.specs.Workloads.{Workload}
use Rattle.turn_model.specs.Moves.{Move, Made, Exchanged, entries}
use Rattle.turn_model.specs.Told.{Told, Past, Kept, KeepsSlot, told_by}
use Rattle.turn_model.specs.Learned.{place_by, query_by}
use Rattle.turn_model.specs.Points.{after, exchanged, point_by}
use Rattle.turn_model.specs.Driven.{MayCall, MayExchange, AreDriven}
use Rattle.turn_model.specs.Runs.{IsTimedCall}
use Rattle.turn_model.proofs.OwnMoves.{moves-tell}
use Rattle.bench_cell.specs.declared.plan.Plan.{Plan}
use Rattle.bench_cell.specs.Plans.{total_of}
use Rattle.worker_machine.specs.declared.kept.Core.{Core}
use Rattle.worker_machine.specs.declared.phase.Phase.{Phase}
use Rattle.worker_machine.specs.Loads.{load_of, model_desk}
use Rattle.worker_machine.specs.Replies.{AreAnswers}
use Rattle.turn_model.specs.Endings.{Work, work_by}
use Rattle.worker_machine.specs.Telling.{Tells, given_up}
use Rattle.worker_machine.proofs.Telling.{called-begins, told-grown, told-kept}
use Rattle.slot_history.specs.declared.act.Entry.{Entry}
use Rattle.turn_model.specs.Shares.{shares_by}
use Rattle.worker_machine.specs.Counting.{HasShares}
use Rattle.worker_machine.specs.PointsOf.{point_of}
use Rattle.worker_machine.specs.Keeps.{HasMade, Moves, Knows, KeepsMind, KeepsRest, standing, chosen}

-- what a call has to show, at the desk before it
pub record CallMoves (may_take : ℕ → ℕ → ℕ → Type 0) (D : Desk Plan) (trail : List Entry) (a : Act) (t : ℕ)
    (ms : List Move) (core : Core) (phase phase' : Phase) : Type 0 where
  pub may : MayCall (model_desk D) ms (point_of D.shape.workers phase) a
  pub timed : IsTimedCall may_take (model_desk D).subject (query_by (model_desk D) ms) a t
  pub knows : Knows (model_desk D) (told_by (model_desk D) (Made a t ∷ ms)) core phase'
  pub point : point_of D.shape.workers phase' ≡ after (model_desk D) ms (point_of D.shape.workers phase) a
  pub shares : HasShares D.shape.queries (shares_by (model_desk D) (Made a t ∷ ms)) core.shares
  pub answers : AreAnswers D.subject core.replies.items
  pub told : Tells (model_desk D) trail (work_by (model_desk D) (Made a t ∷ ms)) core phase'

module _ {O : Type 0} {old new : Seen O Plan} {a : Act} (m : Makes total_of a old new) where
  mine-on : (t : ℕ) (ms : List Move) → own_calls old.desk.worker old.trail ≡ entries old.desk.worker ms
      → own_calls old.desk.worker new.trail ≡ entries old.desk.worker (Made a t ∷ ms)
  mine-on t ms mine =
      let h = m.called.0 in
      ap (own_calls old.desk.worker) m.called.1 ∙ own-mine (entry old.desk.worker a) h old.desk.worker refl
      ∙ ap (λ l. entry old.desk.worker a ∷ l) (m.called.3 ∙ mine)

may-on : {O : Type 0} (old : Seen O Plan) (a : Act) {core : Core} {phase : Phase} (ms : List Move) → HasMade (standing core phase old) ms
    → MayCall (model_desk old.desk) ms (point_of old.desk.shape.workers phase) a → MayCall (model_desk old.desk) ms (point_by (model_desk old.desk) ms) a
may-on old a ms made may = subst (λ x. MayCall (model_desk old.desk) ms x a) made.point may

module _ {O : Type 0} {old new : Seen O Plan} {a : Act} {core core' : Core} {phase phase' : Phase} {may_take : ℕ → ℕ → ℕ → Type 0}
    (m : Makes total_of a old new) where
  pub moves-by : (t : ℕ) → ((ms : List Move) → HasMade (standing core phase old) ms → CallMoves may_take old.desk old.trail a t ms core' phase phase')
      → Moves may_take (standing core phase old) (standing core' phase' new)
  moves-by t shows = record {
    move = Made a t;
    may = λ ms made. may-on old a ms made (shows ms made).may;
    timed = λ ms made. (shows ms made).timed;
    made = λ ms made. let s = shows ms made in record {
      driven = subst (λ (D : Desk Plan). AreDriven (model_desk D) (Made a t ∷ ms)) (sym m.desk) (may-on old a ms made s.may, made.driven);
      mine = subst (λ (D : Desk Plan). own_calls D.worker new.trail ≡ entries D.worker (Made a t ∷ ms)) (sym m.desk) (mine-on m t ms made.mine);
      knows = subst (λ (D : Desk Plan). Knows (model_desk D) (told_by (model_desk D) (Made a t ∷ ms)) core' phase') (sym m.desk) s.knows;
      point = subst (λ (D : Desk Plan). point_of D.shape.workers phase' ≡ point_by (model_desk D) (Made a t ∷ ms)) (sym m.desk)
          (s.point ∙ ap (λ x. after (model_desk old.desk) ms x a) made.point);
      shares = subst (λ (D : Desk Plan). HasShares D.shape.queries (shares_by (model_desk D) (Made a t ∷ ms)) core'.shares) (sym m.desk) s.shares;
      answers = subst (λ (D : Desk Plan). AreAnswers D.subject core'.replies.items) (sym m.desk) s.answers;
      told = subst (λ (D : Desk Plan). Tells (model_desk D) new.trail (work_by (model_desk D) (Made a t ∷ ms)) core' phase') (sym m.desk)
          (told-grown new.trail m.called.4 (called-begins m.called.1 m.called.2) s.told);
    };
  }

-- shares that stay
pub shares-kept : {queries : ℕ} {these : List Share} {old new : Vec Share Global} → HasShares queries these old → new ≡ old → HasShares queries these new
shares-kept {queries} {these} has same = subst (HasShares queries these) (sym same) has

-- replies that stay
pub answers-kept : {plan : Plan} {old new : Vec QueryReply Global} → AreAnswers plan old.items → new ≡ old → AreAnswers plan new.items
answers-kept {plan} are same = subst (λ (v : Vec QueryReply Global). AreAnswers plan v.items) (sym same) are

-- and one reply more
pub answers-on : {a b : Plan} {old new : List QueryReply} → a ≡ b → (AreAnswers a old → AreAnswers a new) → AreAnswers b old → AreAnswers b new
answers-on {a} {b} {old} {new} same more are = subst (λ p. AreAnswers p new) same (more (subst (λ p. AreAnswers p old) (sym same) are))

pub one-answer-more : {plan : Plan} {old new : List QueryReply} (reply : QueryReply) (b : Bool) → new ≡ (if b then old ++ reply ∷ [] else old)
    → IsReplyTo (load_of plan) reply.query reply.reply → AreAnswers plan old → AreAnswers plan new
one-answer-more {plan} {old} {new} reply true is right are = record {
  each = subst (All (λ (r : QueryReply). IsReplyTo (load_of plan) r.query r.reply)) (sym is)
      (All-push (λ (r : QueryReply). IsReplyTo (load_of plan) r.query r.reply) old reply are.each right);
}
one-answer-more {plan} {old} {new} reply false is right are = subst (AreAnswers plan) (sym is) are

-- the call ends no holding and works on no range: with it the moves tell others what they told
abbrev pub IsQuiet : (ℕ → ℕ → ℕ → Type 0) → Desk Workload → Act → List Move → Type 0
IsQuiet may_take D a ms = IsTimedCall may_take D.subject (query_by D ms) a 0
    × (shares_by D (Made a 0 ∷ ms) ≡ shares_by D ms) × (work_by D (Made a 0 ∷ ms) ≡ work_by D ms)

-- what the worker tells others stays
abbrev pub TellsOn : Core → Core → Type 0
TellsOn old new = (new.shares ≡ old.shares) × (new.replies ≡ old.replies) × (new.records ≡ old.records)

module _ {O : Type 0} {old new : Seen O Plan} {a : Act} {core core' : Core} {phase phase' : Phase} {may_take : ℕ → ℕ → ℕ → Type 0}
    (m : Makes total_of a old new) where
  -- such a call is a move if it comes next, and the worker keeps what it tells
  pub quiet-by : ((ms : List Move) → IsQuiet may_take (model_desk old.desk) a ms) → TellsOn core core' → given_up phase' ≡ given_up phase
      → ((ms : List Move) → HasMade (standing core phase old) ms → MayCall (model_desk old.desk) ms (point_of old.desk.shape.workers phase) a
      × Knows (model_desk old.desk) (told_by (model_desk old.desk) (Made a 0 ∷ ms)) core' phase'
      × (point_of old.desk.shape.workers phase' ≡ after (model_desk old.desk) ms (point_of old.desk.shape.workers phase) a))
      → Moves may_take (standing core phase old) (standing core' phase' new)
  quiet-by quiet same gives shows = moves-by m 0 (λ ms h. let q = quiet ms in let s = shows ms h in record {
    may = s.0;
    timed = q.0;
    knows = s.1;
    point = s.2;
    shares = shares-kept (subst (λ (l : List Share). HasShares old.desk.shape.queries l core.shares) (sym q.1) h.shares) same.0;
    answers = answers-kept h.answers same.1;
    told = told-kept core core' phase phase' same.1 same.2 gives
        (subst (λ (w : Work). Tells (model_desk old.desk) old.trail w core phase) (sym q.2) h.told);
  })

-- where the worker is
pub place-made : {O : Type 0} (seen : Seen O Plan) {core : Core} {phase : Phase} (ms : List Move) → HasMade (standing core phase seen) ms
    → own_place seen ≡ place_by (model_desk seen.desk) ms
place-made seen ms made = (moves-tell (model_desk seen.desk) seen.trail ms made.mine).place

module _ {O : Type 0} {old new : Seen O Plan} {core core' : Core} {phase phase' : Phase} {may_take : ℕ → ℕ → ℕ → Type 0}
    (k : KeepsTrail old new) where
  -- an exchange of a cell
  pub exchanges-by : MayExchange (model_desk old.desk) (point_of old.desk.shape.workers phase)
      → ((ms : List Move) → Knows (model_desk old.desk) (told_by (model_desk old.desk) ms) core phase
      → Knows (model_desk old.desk) (told_by (model_desk old.desk) ms) core' phase')
      → point_of old.desk.shape.workers phase' ≡ exchanged (point_of old.desk.shape.workers phase)
      → core'.shares ≡ core.shares → core'.replies ≡ core.replies
      → ((ms : List Move) → HasMade (standing core phase old) ms
      → Tells (model_desk old.desk) old.trail (work_by (model_desk old.desk) (Exchanged ∷ ms)) core' phase')
      → Moves may_take (standing core phase old) (standing core' phase' new)
  exchanges-by may knows point same replies told = record {
    move = Exchanged;
    may = λ ms made. subst (MayExchange (model_desk old.desk)) made.point may;
    timed = λ ms made. tt;
    made = λ ms made. record {
      driven = subst (λ (D : Desk Plan). AreDriven (model_desk D) (Exchanged ∷ ms)) (sym k.desk)
          (subst (MayExchange (model_desk old.desk)) made.point may, made.driven);
      mine = subst (λ (D : Desk Plan). own_calls D.worker new.trail ≡ entries D.worker ms) (sym k.desk) (ap (own_calls old.desk.worker) k.trail ∙ made.mine);
      knows = subst (λ (D : Desk Plan). Knows (model_desk D) (told_by (model_desk D) (Exchanged ∷ ms)) core' phase') (sym k.desk) (knows ms made.knows);
      point = subst (λ (D : Desk Plan). point_of D.shape.workers phase' ≡ point_by (model_desk D) (Exchanged ∷ ms)) (sym k.desk)
          (point ∙ ap exchanged made.point);
      shares = subst (λ (D : Desk Plan). HasShares D.shape.queries (shares_by (model_desk D) (Exchanged ∷ ms)) core'.shares) (sym k.desk)
          (shares-kept made.shares same);
      answers = subst (λ (D : Desk Plan). AreAnswers D.subject core'.replies.items) (sym k.desk) (answers-kept made.answers replies);
      told = subst (λ (D : Desk Plan). Tells (model_desk D) new.trail (work_by (model_desk D) (Exchanged ∷ ms)) core' phase') (sym k.desk)
          (subst (λ (t : List Entry). Tells (model_desk old.desk) t (work_by (model_desk old.desk) (Exchanged ∷ ms)) core' phase') (sym k.trail)
          (told ms made));
    };
  }

-- what stays, field by field
pub rest-kept : {old new : Core} → new.known ≡ old.known → new.finished ≡ old.finished → new.arrived ≡ old.arrived → new.times ≡ old.times
    → new.shares ≡ old.shares → KeepsRest old new
rest-kept known finished arrived times shares =
    record { known = known; finished = finished; arrived = arrived; times = times; shares = shares }

-- what is kept from one phase to another, both with the floor that the moves give
pub keeps-on : {D : Desk Workload} {told : Told} {core : Core} {phase phase' : Phase} → Knows D told core phase
    → chosen phase told.strides ≡ chosen phase' told.strides → Knows D told core phase'
keeps-on k same = record { strides = k.strides ∙ same; finished = k.finished; arrived = k.arrived; times = k.times; slots = k.slots }

-- the same, if what changed is not told by moves
pub mind-on : {D : Desk Workload} {told : Told} {core core' : Core} {phase phase' : Phase} → Knows D told core phase → KeepsMind core core'
    → chosen phase told.strides ≡ chosen phase' told.strides → Knows D told core' phase'
mind-on k keeps same = record {
  strides = ap strides_of keeps.strides ∙ k.strides ∙ same;
  finished = keeps.rest.finished ∙ k.finished;
  arrived = keeps.rest.arrived ∙ k.arrived;
  times = keeps.rest.times ∙ k.times;
  slots = λ s known got. k.slots s known (ap (λ (v : _). slice_get v.items s) (sym keeps.rest.known) ∙ got);
}

-- what is kept of a slot with another group
pub regroup : {D : Desk Workload} {old new : Past} {s : ℕ} {kept : Kept} (group : Option ℕ) → KeepsSlot D old s kept → group ≡ new.group s
    → old.task s ≡ new.task s → ((q : ℕ) → old.time q ≡ new.time q) → ((id : ℕ) → (old.taken id ≡ new.taken id) × (old.end id ≡ new.end id))
    → KeepsSlot D new s (record kept { group = group })
regroup {D} {old} {new} {s} {kept} group k group-is task time ranges = record {
  group = group-is;
  id = k.id ∙ task;
  query = k.query ∙ ap (option_map (λ id. id / STAGES)) task;
  decay = λ q is. let h = k.decay q is in record { params = h.params; spent = subst (HasSpent kept.decay) (time q) h.spent };
  sizer = λ id is. let h = k.sizer id is in record {
    workers = h.workers;
    pace = h.pace ∙ ap pace_of (ranges id).0;
    end_is = h.end_is ∙ (ranges id).1;
  };
}

-- what is kept of a slot after a call that changed its group at most
pub group-on : {D : Desk Workload} {old new : Past} {s : ℕ} {kept : Kept} → KeepsSlot D old s kept → kept.group ≡ new.group s
    → old.task s ≡ new.task s → ((q : ℕ) → old.time q ≡ new.time q) → ((id : ℕ) → (old.taken id ≡ new.taken id) × (old.end id ≡ new.end id))
    → KeepsSlot D new s kept
group-on {D} {old} {new} {s} {kept} k group task time ranges = regroup kept.group k group task time ranges
