-- Whole runs, from workers that made no call.
use Rattle.std.proofs.Common.{◌≡◌, ℕ, ◌≤◌, true, Result, Ok, Err, IfOk, List, [], All, length, slice_get, Some, refl, sym, ap, ◌∙◌, subst, inl, inr}
use Rattle.std.proofs.lemmas.Option.{slice_get_cases}
use Rattle.std.specs.List.{range_with_len}
use Rattle.run_laws.specs.Ends.{IsWork}
use Rattle.slot_history.specs.Bounds.{IsShape}
use Rattle.pool_run.specs.Plays.{Play}
use Rattle.std.proofs.lemmas.List.Elements.{All-nil}
use Rattle.report_text.specs.declared.replies.QueryReply.{QueryReply}
use Rattle.turn_model.specs.Reports.{IsReplyTo}
use Rattle.slot_history.specs.Histories.{IsLegal, own_calls, place_of}
use Rattle.slot_station.specs.Desks.{Desk}
use Rattle.slot_station.specs.Log.{calls_of}
use Rattle.one_thread.specs.Tables.{TableStory}
use Rattle.one_thread.specs.Seats.{desk_over, trail_in}
use Rattle.turn_model.specs.Runs.{Run, desk_at, nothing_done}
use Rattle.turn_model.specs.Orders.{PlayRounds, none, passes, plays, point_in}
use Rattle.turn_model.specs.Points.{has_ended, point_by}
use Rattle.turn_model.specs.Told.{told_by}
use Rattle.bench_cell.specs.declared.plan.Plan.{Plan}
use Rattle.worker_machine.specs.declared.ran.Ran.{Ran}
use Rattle.worker_machine.specs.declared.state.Worker.{Worker}
use Rattle.worker_machine.specs.Desks.{CoreFits, desk_of}
use Rattle.worker_machine.specs.Following.{IsNewFor}
use Rattle.worker_machine.specs.Hands.{InHand}
use Rattle.worker_machine.specs.Keeps.{HasMade, Knows}
use Rattle.worker_machine.specs.Left.{is_ready}
use Rattle.worker_machine.specs.Loads.{load_of, model_desk}
use Rattle.worker_machine.specs.PointsOf.{point_of}
use Rattle.worker_machine.proofs.Untold.{none-told, none-written}
use Rattle.worker_machine.proofs.Picking.{sets-are}
use Rattle.std.specs.Arc.{arc_value}
use Rattle.std.specs.Vec.{vec_capacity}
use Rattle.turn_model.specs.Workloads.{Workload, sets_of}
use Rattle.slot_history.specs.declared.shape.Shape.{Shape}
use Rattle.pool_run.specs.Runs.{AreWorkersOf, Course, RanBy, TakesCourse, asked_in, order_of}
use Rattle.pool_run.specs.Stints.{IsOfOrder, PlayStints, course_by}
use Rattle.pool_run.specs.declared.stint.Stint.{Stint}
use Rattle.pool_run.specs.Plays.{Leads, stints_by, rounds}
use Rattle.pool_run.specs.declared.stint.Stint.TheVariants.{WholeTurn, OneStep, RestOfTurn}
use Rattle.pool_run.specs.Scenes.{Scene, IsNew, HasPlayed, TeamFollows, NoneTurns, AreOver, FollowsIn, shown, stands_in}
use Rattle.pool_run.specs.Collected.{IsToldBy}
use Rattle.pool_run.proofs.Ended.{ran-by}
use Rattle.pool_run.proofs.Ending.{table-done}
use Rattle.pool_run.proofs.Places.{item-at}
use Rattle.pool_run.proofs.Points.{ended-in}
use Rattle.pool_run.proofs.Orders.{back, forth}

-- ---- before the run

module _ (table : TableStory Plan) (w : ℕ) (x : Worker) (log : table.log ≡ []) (new : IsNewFor (desk_over table w) x) where
  no-trail : trail_in w (calls_of table.log) ≡ []
  no-trail = ap (λ l. trail_in w (calls_of l)) log

  follows-new : FollowsIn table w x
  follows-new = record {
    desk = new.desk_is;
    fits = subst (CoreFits x.core) (sym new.ready) tt;
    hand = subst (InHand (shown table w) x.core.benches.items) (sym new.ready) (ap (λ h. place_of table.shape h w) no-trail);
  }

  made-none : HasMade (stands_in table w x) []
  made-none = record {
    driven = tt;
    mine = ap (own_calls w) no-trail;
    knows = subst (Knows (model_desk (desk_over table w)) (told_by (model_desk (desk_over table w)) []) x.core) (sym new.ready)
        (none-told (model_desk (desk_over table w)) new.untold);
    point = ap (point_of table.shape.workers) new.ready;
    shares = new.untold.shares;
    told = none-written (model_desk (desk_over table w)) (trail_in w (calls_of table.log)) _ new.untold.replies new.untold.records new.untold.reply_room
        (subst (λ n. n ≤ vec_capacity x.core.records) (sets-are (arc_value x.core.plan) (desk_of x.core).shape refl
        ∙ ap (λ (k : Desk Plan). sets_of k.shape (load_of k.subject)) new.desk_is) new.untold.record_room);
    answers = record {
      each = subst (All (λ (r : QueryReply). IsReplyTo (load_of table.subject) r.query r.reply)) (sym new.untold.replies)
          (All-nil (λ (r : QueryReply). IsReplyTo (load_of table.subject) r.query r.reply));
    };
  }

module _ {at : Scene} (new : IsNew at) where
  pub new-follows : TeamFollows at
  new-follows = record { count = new.team.count; each = λ w x here. follows-new at.table w x new.log (new.team.each w x here) }

  pub new-ready : NoneTurns at.team
  new-ready w x here = ap is_ready (new.team.each w x here).ready

  pub new-played : (may_take : ℕ → ℕ → ℕ → Type 0) → HasPlayed may_take at nothing_done
  new-played may_take = record {
    history = sym (ap calls_of new.log);
    no_more = λ w past. refl;
    made = λ w x here. made-none at.table w x new.log (new.team.each w x here);
    timed = λ w low. tt;
  }

-- ---- after it

-- the queries of a table are those of its plan
queries-are : {at : Scene} → TeamFollows at → IsShape at.table.shape → at.table.shape.queries ≡ length at.table.subject.queries.items
queries-are {at} follows shape =
    let x = item-at at.team at.table.shape.workers 0 follows.count shape.workers.0 in
    let d = (follows.each 0 x.0 x.1).desk in
    sym (ap (λ (D : Desk Plan). D.shape.queries) d) ∙ ap (λ (D : Desk Plan). length D.subject.queries.items) d

-- what every whole run leaves, at its table's end
pub record Closes (at : Scene) (ran : Ran) : Type 0 where
  pub follows : TeamFollows at
  pub over : AreOver at.team
  pub limits : IsShape at.table.shape
  pub work : IsWork at.table.shape (load_of at.table.subject)
  pub legal : IsLegal at.table.shape (calls_of at.table.log)
  pub history : ran.history ≡ calls_of at.table.log
  pub told : IsToldBy at.team ran.report ran.times.items

-- ---- its course

-- if no turn is under way, none has to be ended
still : (d : Shape) (load : Workload) (order : List ℕ) (run end : Run) → ((w : ℕ) → has_ended (point_in d load run w) ≡ true)
    → PlayStints d load RestOfTurn order run end → run ≡ end
still d load order x z ended (none run) = refl
still d load order x z ended (passes w others run end p rest) = still d load others run end ended rest
still d load order x z ended (plays w others run next end not p rest) = absurd (not (ended w))

takes-course : (d : Shape) (load : Workload) (stint : Stint) (order : List ℕ) (x z y : Run) → IsOfOrder stint
    → (stint ≡ WholeTurn → (w : ℕ) → has_ended (point_in d load x w) ≡ true) → PlayStints d load stint order nothing_done x
    → PlayStints d load RestOfTurn (range_with_len 0 d.workers) x z → PlayRounds d load z y → TakesCourse d load (course_by stint order) y
takes-course d load WholeTurn order x z y is ended first second last = record {
  middle = x;
  turns = first;
  rounds = subst (λ r. PlayRounds d load r y) (sym (still d load (range_with_len 0 d.workers) x z (ended refl) second)) last;
}
takes-course d load OneStep order x z y is ended first second last = record { first = x; second = z; moves = first; ended = second; rounds = last }
takes-course d load RestOfTurn order x z y is ended first second last = absurd (is refl)

-- where no turn is under way, by the run
none-under-way : {may_take : ℕ → ℕ → ℕ → Type 0} {at : Scene} {run : Run} → HasPlayed may_take at run → TeamFollows at → NoneTurns at.team
    → (w : ℕ) → has_ended (point_in at.table.shape (load_of at.table.subject) run w) ≡ true
none-under-way {may_take} {at} {run} played follows ready w = elim (slice_get_cases at.team w).1 [ inl p ↦ here p.0 p.2 | inr p ↦ past p.0 ] where
  here : (x : Worker) → slice_get at.team w ≡ Some x → has_ended (point_in at.table.shape (load_of at.table.subject) run w) ≡ true
  here x is = ended-in at.table (played.made w x is) ∙ ready w x is

  past : length at.team ≤ w → has_ended (point_in at.table.shape (load_of at.table.subject) run w) ≡ true
  past after = ap (λ ms. has_ended (point_by (desk_at at.table.shape (load_of at.table.subject) w) ms))
      (played.no_more w (subst (λ n. n ≤ w) follows.count after))

-- the order of such a course
pub same-order : (stint : Stint) (order : List ℕ) → order_of (course_by stint order) ≡ order
same-order WholeTurn order = refl
same-order OneStep order = refl
same-order RestOfTurn order = refl

-- a run that was asked for, by shape and work
abbrev RanAs : (ℕ → ℕ → ℕ → Type 0) → Course → Ran → Shape → Workload → Type 0
RanAs may_take course ran d load = RanBy may_take (record { shape = d; load = load; course = course }) ran.report ran.history ran.times.items

module _ {may_take : ℕ → ℕ → ℕ → Type 0} {a b m c : Scene} (ran : Ran) (stint : Stint) (order : List ℕ) (new : IsNew a)
    (first : Leads may_take (stints_by stint order) a b)
    (second : Leads may_take (stints_by RestOfTurn (range_with_len 0 b.table.shape.workers)) b m) (third : Leads may_take rounds m c) where
  pub ran-in-order : IsOfOrder stint → AreWorkersOf a.table.shape order → TeamFollows b → (stint ≡ WholeTurn → NoneTurns b.team) → Closes c ran
      → RanBy may_take (asked_in a.table (course_by stint order)) ran.report ran.history ran.times.items
  ran-in-order is of_workers follows ready end =
      let x = first.leads nothing_done (new-played new may_take) in
      let z = second.leads x.next x.played in
      let y = third.leads z.next z.played in
      let d = a.table.shape in
      let load = load_of a.table.subject in
      let by : TakesCourse d load (course_by stint order) y.next = takes-course d load stint order x.next z.next y.next is
      (λ whole w. back first (λ d load. has_ended (point_in d load x.next w) ≡ true) (none-under-way x.played follows (ready whole) w)) x.plays
      (back first (λ d load. PlayStints d load RestOfTurn (range_with_len 0 d.workers) x.next z.next) z.plays)
      (back first (λ d load. PlayRounds d load z.next y.next) (back second (λ d load. PlayRounds d load z.next y.next) y.plays)) in
      let there : TakesCourse c.table.shape (load_of c.table.subject) (course_by stint order) y.next =
      forth third (λ d load. TakesCourse d load (course_by stint order) y.next) (forth second (λ d load. TakesCourse d load (course_by stint order) y.next)
      (forth first (λ d load. TakesCourse d load (course_by stint order) y.next) by)) in
      let workers : AreWorkersOf c.table.shape order = forth third (λ d load. AreWorkersOf d order)
      (forth second (λ d load. AreWorkersOf d order) (forth first (λ d load. AreWorkersOf d order) of_workers)) in
      let ended : RanAs may_take (course_by stint order) ran c.table.shape (load_of c.table.subject) =
      ran-by (table-done y.played end.follows end.legal) end.over end.told (queries-are end.follows end.limits) end.work (course_by stint order)
      (subst (AreWorkersOf c.table.shape) (sym (same-order stint order)) workers) there ran.history (y.played.history ∙ sym end.history) in
      back first (RanAs may_take (course_by stint order) ran) (back second (RanAs may_take (course_by stint order) ran)
      (back third (RanAs may_take (course_by stint order) ran) ended))

-- an answer of which two facts hold, if there is one
pub ends-with : {A E : Type 0} {H T P : A → Type 0} (r : Result A E) → ((x : A) → H x → T x → P x) → IfOk r H → IfOk r T → IfOk r P
ends-with (Ok x) make h t = make x h t
ends-with (Err e) make h t = tt

pub ok-map : {A E : Type 0} {P Q : A → Type 0} (r : Result A E) → ((x : A) → P x → Q x) → IfOk r P → IfOk r Q
ok-map (Ok x) make p = make x p
ok-map (Err e) make p = tt

pub still-works : {may_take : ℕ → ℕ → ℕ → Type 0} {play : Play} {a b : Scene} → Leads may_take play a b → IsWork a.table.shape (load_of a.table.subject)
    → IsWork b.table.shape (load_of b.table.subject)
still-works p work = forth p IsWork work
