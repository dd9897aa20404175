-- What workers have done in a run, and what follows once all are over.
use Rattle.std.proofs.Common.{◌≡◌, ℕ, ◌<◌, ◌≤◌, List, [], ◌∷◌, ◌++◌, All, length, map, get_or, slice_get, Some, None, unwrap_or}
use Rattle.std.proofs.Common.{refl, sym, ap, ◌∙◌, subst, arith, inl, inr}
use Rattle.std.specs.List.{flat_map}
use Rattle.std.specs.List.Sorted.{IsPermutation}
use Rattle.std.specs.Option.{option_map}
use Rattle.std.proofs.lemmas.List.{length-map}
use Rattle.std.proofs.lemmas.Option.{slice_get_cases, slice_get-get_or, slice_get-map, slice_get_past}
use Rattle.slot_history.specs.declared.shape.Shape.{Shape}
use Rattle.slot_history.specs.declared.act.Entry.{Entry}
use Rattle.slot_history.specs.Histories.{Begins, IsLegal, IsOfTotals, own_calls}
use Rattle.slot_station.specs.Desks.{Desk}
use Rattle.stride_set.specs.Strides.{Strides, strides_of}
use Rattle.report_text.specs.declared.report.Gap.{Gap}
use Rattle.report_text.specs.declared.report.Report.{Report}
use Rattle.turn_model.specs.Learned.{strides_by}
use Rattle.turn_model.specs.Moves.{Move, times_of}
use Rattle.turn_model.specs.Reports.{AreGaps, IsGapOf, IsReportOf}
use Rattle.turn_model.specs.Runs.{AreTimed, IsComplete, IsDriven, IsDrivenBy, Run, desk_at}
use Rattle.turn_model.specs.Workloads.{Workload}
use Rattle.turn_model.specs.Endings.{HasRoom, work_by}
use Rattle.turn_model.specs.Tellings.{HasTold, HaveTold, Telling}
use Rattle.turn_model.proofs.RecordsStay.{told-stays}
use Rattle.run_laws.specs.Ends.{IsWork}
use Rattle.run_laws.specs.Merging.{IsWhole}
use Rattle.run_laws.specs.Scheduled.{IsFairTo, ScheduledRun}
use Rattle.run_laws.proofs.CompleteRuns.{complete-whole, driven-played}
use Rattle.run_laws.proofs.Reported.{merged-is-report}
use Rattle.run_laws.proofs.Scheduled.{runs-are-scheduled}
use Rattle.bench_cell.specs.declared.plan.Plan.{Plan}
use Rattle.worker_machine.specs.Desks.{desk_of}
use Rattle.worker_machine.specs.Keeps.{HasMade, Standing, chosen}
use Rattle.worker_machine.specs.Loads.{load_of, model_desk}
use Rattle.worker_machine.specs.PointsOf.{point_of}
use Rattle.worker_machine.specs.Telling.{given_up, telling_of}
use Rattle.worker_machine.specs.declared.phase.Phase.{Phase}
use Rattle.worker_machine.specs.declared.state.Worker.{Worker}
use Rattle.pool_run.specs.Collected.{IsToldBy, gap_of}
use Rattle.pool_run.specs.Runs.{AreWorkersOf, Course, IsFairGap, RanBy, TakesCourse, order_of, times_at}
use Rattle.pool_run.specs.Scenes.{AreOver}
use Rattle.pool_run.proofs.Places.{item-at, mapped-at}
use Rattle.pool_run.proofs.Works.{none-past}

-- what a worker has told by its moves
made-is-told : (at : Standing) (ms : List Move) → HasMade at ms → HasRoom (model_desk at.desk) (work_by (model_desk at.desk) ms)
    → HasTold (model_desk at.desk) at.trail ms (telling_of at.core at.phase)
made-is-told at ms made room = record { of_work = made.told.tells room; shares = made.shares.are }

abbrev tells : Worker → Telling
tells x = telling_of x.core x.phase

map-tells : {B : Type 0} (f : Telling → List B) (team : List Worker) → flat_map f (map tells team) ≡ flat_map (λ x. f (tells x)) team
map-tells f [] = refl
map-tells f (x ∷ xs) = ap (λ l. f (tells x) ++ l) (map-tells f xs)

map-gaps : (team : List Worker) → map (λ (t : Telling). t.gap) (map tells team) ≡ map gap_of team
map-gaps [] = refl
map-gaps (x ∷ xs) = ap (λ l. gap_of x ∷ l) (map-gaps xs)

-- the gaps of a run that is fair to each worker
gaps-fair : (d : Shape) (load : Workload) (team : ℕ → List Move) (gaps : List Gap) → AreGaps d load team gaps
    → ((w : ℕ) → w < d.workers → IsFairTo d load w (team w)) → All IsFairGap gaps
gaps-fair d load team gaps are fair = λ k other within.
    let is = are.each k (get_or gaps k other) (slice_get-get_or gaps k other within) in
    let count : length gaps ≡ d.workers = are.count in
    let low = fair k (omega arith) in
    let widest = is.widest in
    let largest = is.largest in
    omega (arith, widest, largest, low)

abbrev pub desk_in : Shape → Plan → ℕ → Desk Plan
desk_in d plan w = record { worker = w; shape = d; subject = plan }

module _ (may_take : ℕ → ℕ → ℕ → Type 0) (d : Shape) (plan : Plan) where
  -- the worker w made these moves: its calls in the history h, of which it saw a beginning
  pub record HasDone (h : List Entry) (w : ℕ) (worker : Worker) (ms : List Move) : Type 0 where
    pub trail : List Entry
    pub desk : desk_of worker.core ≡ desk_in d plan w
    pub made : HasMade (record { core = worker.core; phase = worker.phase; desk = desk_in d plan w; trail = trail }) ms
    pub timed : AreTimed may_take (desk_at d (load_of plan) w) ms
    pub begins : Begins h trail
    pub own : own_calls w h ≡ own_calls w trail

  -- all workers did so in this run, whose history is legal and of the plan
  pub record HaveDone (run : Run) (team : List Worker) : Type 0 where
    pub legal : IsLegal d run.history
    pub of_load : IsOfTotals (load_of plan).total d run.history
    pub count : length team ≡ d.workers
    pub no_more : (w : ℕ) → d.workers ≤ w → run.team w ≡ []
    pub each : (w : ℕ) (worker : Worker) → slice_get team w ≡ Some worker → HasDone run.history w worker (run.team w)

module _ {may_take : ℕ → ℕ → ℕ → Type 0} {d : Shape} {plan : Plan} {run : Run} {team : List Worker} (all : HaveDone may_take d plan run team) where
  pub driven : IsDriven may_take d (load_of plan) run
  driven = record { legal = all.legal; of_load = all.of_load; each = by } where
    by : (w : ℕ) → w < d.workers → IsDrivenBy may_take (desk_at d (load_of plan) w) run.history (run.team w)
    by w below =
        let x = item-at team d.workers w all.count below in
        let done = all.each w x.0 x.1 in
        record { driven = done.made.driven; timed = done.timed; mine = done.own ∙ done.made.mine }

  -- the times of the workers, and none of others
  times-are : (times : List (List ℕ)) → times ≡ map (λ (x : Worker). x.core.times) team → (w : ℕ) → times_at times w ≡ times_of (run.team w)
  times-are times are w = elim (slice_get_cases team w).1 [ inl p ↦ here p.0 p.2 | inr p ↦ past p.0 ] where
    read : slice_get times w ≡ option_map (λ (x : Worker). x.core.times) (slice_get team w)
    read = ap (λ l. slice_get l w) are ∙ slice_get-map (λ (x : Worker). x.core.times) team w

    here : (x : Worker) → slice_get team w ≡ Some x → times_at times w ≡ times_of (run.team w)
    here x is = ap (λ o. unwrap_or o []) (read ∙ ap (option_map (λ (x : Worker). x.core.times)) is) ∙ (all.each w x is).made.knows.times

    past : length team ≤ w → times_at times w ≡ times_of (run.team w)
    past after =
        let beyond : d.workers ≤ w = subst (λ n. n ≤ w) all.count after in
        ap (λ o. unwrap_or o []) (read ∙ ap (option_map (λ (x : Worker). x.core.times)) (slice_get_past team w after))
        ∙ sym (ap times_of (all.no_more w beyond))

  told-at : (w : ℕ) (x : Worker) → slice_get team w ≡ Some x
      → HasRoom (desk_at d (load_of plan) w) (work_by (desk_at d (load_of plan) w) (run.team w))
      → HasTold (desk_at d (load_of plan) w) run.history (run.team w) (tells x)
  told-at w x here room =
      let done = all.each w x here in
      told-stays (desk_at d (load_of plan) w) run.history done.trail (run.team w) (tells x) all.legal done.begins
      (made-is-told (record { core = x.core; phase = x.phase; desk = desk_in d plan w; trail = done.trail }) (run.team w) done.made room)

  module _ (over : AreOver team) where
    completes : IsComplete may_take d (load_of plan) run
    completes = record {
      driven = driven;
      over = λ w below.
          let x = item-at team d.workers w all.count below in
          sym (all.each w x.0 x.1).made.point ∙ ap (point_of d.workers) (over w x.0 x.1);
    }

    gap-at : (w : ℕ) (x : Worker) → slice_get team w ≡ Some x → IsGapOf (desk_at d (load_of plan) w) (run.team w) (gap_of x)
    gap-at w x here =
        let done = all.each w x here in
        let passes : strides_of x.core.strides ≡ strides_by (desk_at d (load_of plan) w) (run.team w) =
        done.made.knows.strides ∙ ap (λ (p : Phase). chosen p (strides_by (desk_at d (load_of plan) w) (run.team w))) (over w x here) in
        record {
          worker = ap (λ (D : Desk Plan). D.worker) done.desk;
          widest = ap (λ (s : Strides). s.widest) passes;
          largest = ap (λ (s : Strides). s.largest) passes;
        }

    have-told : HaveTold d (load_of plan) run (map tells team)
    have-told = record {
      count = length-map team tells ∙ all.count;
      each = λ w t here room.
          let x = mapped-at tells team w t here in
          subst (HasTold (desk_at d (load_of plan) w) run.history (run.team w)) x.2 (told-at w x.0 x.1 room);
      gaps = λ w t here.
          let x = mapped-at tells team w t here in
          subst (λ (k : Telling). IsGapOf (desk_at d (load_of plan) w) (run.team w) k.gap) x.2 (gap-at w x.0 x.1);
      given_up = λ w t here.
          let x = mapped-at tells team w t here in
          subst (λ (k : Telling). k.gives_up ≡ None) x.2 (ap given_up (over w x.0 x.1));
    }

    module _ {report : Report} {elapsed : List (List ℕ)} (told : IsToldBy team report elapsed) where
      report-of : IsWhole d (load_of plan) run → IsReportOf d (load_of plan) run report
      report-of whole = merged-is-report d (load_of plan) run (map tells team) report whole have-told (record {
        replies = subst (λ l. IsPermutation l report.replies) (sym (map-tells (λ t. t.replies) team)) told.replies;
        by_query = told.by_query;
        records = subst (λ l. IsPermutation l report.records) (sym (map-tells (λ t. t.records) team)) told.records;
        by_task = told.by_task;
        shares = told.shares ∙ sym (map-tells (λ t. t.shares) team);
        gaps = told.gaps ∙ sym (map-gaps team);
      })

      -- the run that was asked for, by its history
      pub ran-by : (queries : d.queries ≡ length plan.queries.items) → IsWork d (load_of plan) → (course : Course) → AreWorkersOf d (order_of course)
          → TakesCourse d (load_of plan) course run → (history : List Entry) → run.history ≡ history
          → RanBy may_take (record { shape = d; load = load_of plan; course = course }) report history elapsed
      ran-by queries work course of_workers by history same =
          let complete : IsComplete may_take d (load_of plan) run = completes in
          let reported : IsReportOf d (load_of plan) run report = report-of (complete-whole may_take d (load_of plan) run work
          (λ q past. none-past plan q (subst (λ n. n ≤ q) queries past)) complete) in
          let scheduled : ScheduledRun d (load_of plan) run report = runs-are-scheduled d (load_of plan) run report (record {
            work = work;
            played = driven-played may_take d (load_of plan) run complete.driven;
            of_load = complete.driven.of_load;
            over = complete.over;
          }) reported in
          record {
            reports = record {
              work = work;
              of_workers = of_workers;
              run = run;
              by_course = by;
              complete = complete;
              told = reported;
              scheduled = scheduled;
              fair = gaps-fair d (load_of plan) run.team report.gaps reported.gaps scheduled.fair;
            };
            has = record { history = same; times_are = λ w. times-are elapsed told.times w };
            times = ap length told.times ∙ length-map team (λ (x : Worker). x.core.times) ∙ all.count;
          }
