-- The scheduling theorem: what a whole run has done, and what its report says.
use Rattle.std.specs.Prelude.{◌≡◌, ℕ, ◌<◌, ◌≤◌, List, Some}
use Rattle.slot_history.specs.declared.shape.Shape.{Shape}
use Rattle.slot_history.specs.declared.act.Entry.{Entry}
use Rattle.slot_history.specs.Histories.{IsLegal, IsOfTotals, Tiles, FinalisedOnce, own_calls}
use Rattle.slot_history.specs.Histories.{claims_of, lasts_of}
use Rattle.report_text.specs.declared.report.Report.{Report}
use Rattle.turn_model.specs.Workloads.{Workload}
use Rattle.turn_model.specs.Moves.{Move, entries}
use Rattle.turn_model.specs.Learned.{strides_by}
use Rattle.turn_model.specs.Runs.{Run, desk_at}
use Rattle.turn_model.specs.Orders.{AllOver}
use Rattle.turn_model.specs.Reports.{AreReplies, IsReportOf}
use Rattle.run_laws.specs.Ends.{IsWork, IsPlayed}
use Rattle.run_laws.specs.Completes.{IsAllDone}

-- A legal history of this work, of moves that its workers make, whatever time these took. In the
-- end every worker is over.
pub record IsEnded (d : Shape) (load : Workload) (run : Run) : Type 0 where
  pub work : IsWork d load
  pub played : IsPlayed d load run
  pub of_load : IsOfTotals load.total d run.history
  pub over : AllOver d load run

-- every tuple of the task set lies in exactly one claimed morsel
pub record IsTiled (d : Shape) (load : Workload) (h : List Entry) (id : ℕ) : Type 0 where
  pub total : ℕ
  pub of_load : load.total id ≡ Some total
  pub tiles : Tiles (claims_of d id h) total

-- no two passes of the worker's slots that were active at the same time ever differed by more than
-- the largest advance of a pass
abbrev pub IsFairTo : Shape → Workload → ℕ → List Move → Type 0
IsFairTo d load w ms = let strides = strides_by (desk_at d load w) ms in
    strides.widest ≤ strides.largest

-- The scheduling theorem of a run and its report.
pub record ScheduledRun (d : Shape) (load : Workload) (run : Run) (report : Report) : Type 0 where
  -- The calls of all workers stand in one legal history,
  pub legal : IsLegal d run.history
  -- each once, in each worker's own order, and with the replies that the worker saw.
  pub own : (w : ℕ) → w < d.workers → own_calls w run.history ≡ entries w (run.team w)
  -- Every tuple of a finalised task set lies in exactly one claimed morsel.
  pub tiled : (id : ℕ) → 0 < lasts_of d id run.history → IsTiled d load run.history id
  -- A finalised task set was finalised once, after its last worker left and before its slot held
  -- another.
  pub once : (id : ℕ) → 0 < lasts_of d id run.history → FinalisedOnce d id run.history
  -- In the end every query was admitted, every task set is done, and no slot is in use.
  pub done : IsAllDone d load run.history
  -- There is one reply to each query: its one-thread answer, or that memory ran out.
  pub answered : AreReplies d load report.replies
  -- The active passes of a worker never differ by more than its largest advance.
  pub fair : (w : ℕ) → w < d.workers → IsFairTo d load w (run.team w)

-- ---- the laws, as the functions of module `laws` state them

-- every run is fair to each worker, also before it ends
abbrev pub WorkersAreFair : Type 0
WorkersAreFair = (d : Shape) (load : Workload) (run : Run) (w : ℕ) → IsPlayed d load run
    → w < d.workers → IsFairTo d load w (run.team w)

-- a run that ended is scheduled, with each report that it has
abbrev pub RunsAreScheduled : Type 0
RunsAreScheduled = (d : Shape) (load : Workload) (run : Run) (report : Report)
    → IsEnded d load run → IsReportOf d load run report → ScheduledRun d load run report
