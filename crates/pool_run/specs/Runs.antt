-- What may be asked of a whole run, and what it leaves.
use Rattle.std.specs.Prelude.{◌≡◌, ℕ, ◌<◌, ◌≤◌, List, [], All, length, slice_get, unwrap_or}
use Rattle.slot_history.specs.declared.act.Entry.{Entry}
use Rattle.slot_history.specs.declared.shape.Shape.{Shape}
use Rattle.slot_history.specs.declared.shape.TheConstants.{MOST_SLOTS, MOST_WORKERS}
use Rattle.report_text.specs.declared.report.Gap.{Gap}
use Rattle.report_text.specs.declared.report.Report.{Report}
use Rattle.one_thread.specs.Tables.{TableStory}
use Rattle.turn_model.specs.Workloads.{Workload}
use Rattle.turn_model.specs.Measure.{ArriveInTime}
use Rattle.turn_model.specs.Runs.{Run, HasRun, IsComplete}
use Rattle.turn_model.specs.Orders.{IsByTurns, IsByMoves}
use Rattle.turn_model.specs.Reports.{IsReportOf}
use Rattle.run_laws.specs.Ends.{IsWork}
use Rattle.run_laws.specs.Scheduled.{ScheduledRun}
use Rattle.bench_cell.specs.declared.plan.Plan.{Plan}
use Rattle.worker_machine.specs.Loads.{load_of}
use Rattle.pool_run.specs.declared.runs.TheConstants.{MOST_NUMBERS}

-- How the workers of a run follow one another: by whole turns of an order, or by single moves of
-- it, after which the turns under way are ended, and then in rounds of whole turns; or in no order,
-- each worker on a thread of its own.
pub data Course : Type 0 where
  turns : List ℕ → Course
  moves : List ℕ → Course
  threads : Course

abbrev pub order_of : Course → List ℕ
order_of (turns order) = order
order_of (moves order) = order
order_of threads = []

-- the run follows this course
abbrev pub TakesCourse : Shape → Workload → Course → Run → Type 0
TakesCourse d load (turns order) run = IsByTurns d load order run
TakesCourse d load (moves order) run = IsByMoves d load order run
TakesCourse d load threads run = Unit {0}

-- what a run is asked for: so many workers and slots, work, and a course
pub record Asked : Type 0 where
  pub shape : Shape
  pub load : Workload
  pub course : Course

-- a run by a course over a table
abbrev pub asked_in : TableStory Plan → Course → Asked
asked_in table course = record {
  shape = table.shape;
  load = load_of table.subject;
  course = course;
}

-- a run of a plan
abbrev pub asked_of : Plan → ℕ → ℕ → Course → Asked
asked_of plan workers slots course = record {
  shape = record { workers = workers; slots = slots; queries = length plan.queries.items };
  load = load_of plan;
  course = course;
}

-- the numbers of the order are workers of a run of this shape
abbrev pub AreWorkersOf : Shape → List ℕ → Type 0
AreWorkersOf d order = All (λ w. w < d.workers) order

-- A run may be asked for so many workers and slots, and by an order of at most so many numbers of
-- these workers. Each query arrives at the latest when all task sets of those before it are done.
pub record MayRun (asked : Asked) : Type 0 where
  pub workers : (0 < asked.shape.workers) × (asked.shape.workers ≤ MOST_WORKERS)
  pub slots : (0 < asked.shape.slots) × (asked.shape.slots ≤ MOST_SLOTS)
  pub few : length (order_of asked.course) ≤ MOST_NUMBERS
  pub order : AreWorkersOf asked.shape (order_of asked.course)
  pub in_time : ArriveInTime asked.shape asked.load

-- the elapsed times of a worker
abbrev pub times_at : List (List ℕ) → ℕ → List ℕ
times_at elapsed w = unwrap_or (slice_get elapsed w) []

-- the active passes of a worker never lay further apart than its largest advance
abbrev pub IsFairGap : Gap → Type 0
IsFairGap gap = gap.widest ≤ gap.largest

module _ (may_take : ℕ → ℕ → ℕ → Type 0) (asked : Asked) where
  -- The report of a complete run of work that ends, which followed the course, by an order of its
  -- workers if it has one. The scheduling theorem holds of the run and the report. No gap is wider
  -- than the worker's largest advance.
  pub record ReportsBy (report : Report) : Type 0 where
    pub work : IsWork asked.shape asked.load
    pub of_workers : AreWorkersOf asked.shape (order_of asked.course)
    pub run : Run
    pub by_course : TakesCourse asked.shape asked.load asked.course run
    pub complete : IsComplete may_take asked.shape asked.load run
    pub told : IsReportOf asked.shape asked.load run report
    pub scheduled : ScheduledRun asked.shape asked.load run report
    pub fair : All IsFairGap report.gaps

  -- the report, the history and the times of such a run, a list of times for each worker
  pub record RanBy (report : Report) (history : List Entry) (elapsed : List (List ℕ)) : Type 0 where
    pub reports : ReportsBy report
    pub has : HasRun reports.run history (times_at elapsed)
    pub times : length elapsed ≡ asked.shape.workers
