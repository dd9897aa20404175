-- One text for each input: what a run does, and what its report says, if no query is given up.
use Rattle.std.specs.Prelude.{◌≡◌, ℕ, ◌<◌, ◌≤◌, List, [], ◌∷◌, All}
use Rattle.slot_history.specs.declared.shape.Shape.{Shape}
use Rattle.slot_history.specs.declared.shape.TheConstants.{STAGES}
use Rattle.slot_history.specs.declared.act.Act.{Act}
use Rattle.slot_history.specs.declared.act.Act.TheVariants.{NoteDone}
use Rattle.slot_station.specs.Desks.{Desk}
use Rattle.report_text.specs.declared.report.Report.{Report}
use Rattle.turn_model.specs.Workloads.{Workload}
use Rattle.turn_model.specs.Moves.{Move, Made, Exchanged}
use Rattle.turn_model.specs.Points.{Point, Fill, Fetch, point_by}
use Rattle.turn_model.specs.Runs.{Run, IsComplete, desk_at}
use Rattle.turn_model.specs.Orders.{IsByTurns, IsByMoves}
use Rattle.turn_model.specs.Reports.{RanOut, IsReportOf}
use Rattle.run_laws.specs.Ends.{IsWork}

-- a meter that answers just this time, by the tuples of a range and the cost of its query
abbrev pub takes : (ℕ → ℕ → ℕ) → ℕ → ℕ → ℕ → Type 0
takes time tuples cost ns = ns ≡ time tuples cost

-- A call at a point of a turn notes task sets as done one at a time, each after it was finalised.
abbrev pub NotesOne : Point → Act → Type 0
NotesOne (Fill v) (NoteDone n) = ⊥
NotesOne (Fetch v) (NoteDone n) = n ≡ 1
NotesOne x a = Unit {0}

-- no move of the worker gives a query up, as it may if memory runs out
abbrev pub GivesNoneUp : Desk Workload → List Move → Type 0
GivesNoneUp D [] = Unit {0}
GivesNoneUp D (Made a t ∷ ms) = NotesOne (point_by D ms) a × GivesNoneUp D ms
GivesNoneUp D (Exchanged ∷ ms) = GivesNoneUp D ms

-- what runs are asked for: an object and its work, an order of workers, and the time of each range
pub record Input : Type 0 where
  pub shape : Shape
  pub load : Workload
  pub order : List ℕ
  pub time : ℕ → ℕ → ℕ

-- the order has numbers of workers
abbrev pub IsOfWorkers : Input → Type 0
IsOfWorkers input = All (λ w. w < input.shape.workers) input.order

-- a complete run in which no query is given up
pub record ServesAll (input : Input) (run : Run) : Type 0 where
  pub complete : IsComplete (takes input.time) input.shape input.load run
  pub none : (w : ℕ) → w < input.shape.workers
      → GivesNoneUp (desk_at input.shape input.load w) (run.team w)

-- no query has more stages than there are numbers for
abbrev pub HaveFewStages : Workload → Type 0
HaveFewStages load = (q : ℕ) → load.stages q ≤ STAGES

-- no reply says that memory ran out
abbrev pub NoneRanOut : Report → Type 0
NoneRanOut report = (q : ℕ) → RanOut q report.replies → ⊥

-- a complete run with its report, in which no query ran out of memory
pub record IsAnswered (input : Input) (run : Run) (report : Report) : Type 0 where
  pub complete : IsComplete (takes input.time) input.shape input.load run
  pub told : IsReportOf input.shape input.load run report
  pub none : NoneRanOut report

-- the work of the input ends, and its order is of workers
pub record IsInput (input : Input) : Type 0 where
  pub work : IsWork input.shape input.load
  pub of_workers : IsOfWorkers input

-- ---- the laws, as the functions of module `laws` state them

-- two such runs by turns of the order are one run: the same moves, times and history
abbrev pub RunsByTurnsAgree : Type 0
RunsByTurnsAgree = (input : Input) (one other : Run) → IsOfWorkers input → ServesAll input one
    → ServesAll input other → IsByTurns input.shape input.load input.order one
    → IsByTurns input.shape input.load input.order other → one ≡ other

-- and two such runs by single moves of it
abbrev pub RunsByMovesAgree : Type 0
RunsByMovesAgree = (input : Input) (one other : Run) → IsOfWorkers input → ServesAll input one
    → ServesAll input other → IsByMoves input.shape input.load input.order one
    → IsByMoves input.shape input.load input.order other → one ≡ other

-- two reports of a run are one report, if no query ran out of memory in either
abbrev pub OneReport : Type 0
OneReport = (d : Shape) (load : Workload) (run : Run) (one other : Report) → HaveFewStages load
    → IsReportOf d load run one → IsReportOf d load run other → NoneRanOut one → NoneRanOut other
    → one ≡ other

-- If no reply of the report of a complete run says that memory ran out, no query was given up.
abbrev pub AnsweredServesAll : Type 0
AnsweredServesAll = (input : Input) (run : Run) (report : Report) → IsInput input
    → IsAnswered input run report → ServesAll input run

-- So there is one run and one report, and so one text, for each input: by turns of the order,
abbrev pub OneTextByTurns : Type 0
OneTextByTurns = (input : Input) (one other : Run) (report same : Report) → IsInput input
    → IsAnswered input one report → IsAnswered input other same
    → IsByTurns input.shape input.load input.order one
    → IsByTurns input.shape input.load input.order other → (one ≡ other) × (report ≡ same)

-- and by single moves of it.
abbrev pub OneTextByMoves : Type 0
OneTextByMoves = (input : Input) (one other : Run) (report same : Report) → IsInput input
    → IsAnswered input one report → IsAnswered input other same
    → IsByMoves input.shape input.load input.order one
    → IsByMoves input.shape input.load input.order other → (one ≡ other) × (report ≡ same)
