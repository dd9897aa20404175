-- The report of a complete run, from what its workers tell.
use Rattle.std.specs.Prelude.{◌≡◌, ℕ, ◌^◌, ◌<◌, ◌≤◌, List, [], ◌∷◌, length, flat_map, slice_get}
use Rattle.std.specs.Prelude.{Some}
use Rattle.slot_history.specs.declared.shape.Shape.{Shape}
use Rattle.slot_history.specs.declared.shape.TheConstants.{MOST_QUERIES}
use Rattle.report_text.specs.declared.report.Report.{Report}
use Rattle.report_text.specs.declared.report.Share.{Share}
use Rattle.turn_model.specs.Workloads.{Workload}
use Rattle.turn_model.specs.Moves.{Move, Made, Exchanged}
use Rattle.turn_model.specs.Runs.{Run, desk_at}
use Rattle.turn_model.specs.Orders.{AllOver}
use Rattle.turn_model.specs.Reports.{AreShares, IsReportOf}
use Rattle.turn_model.specs.Shares.{AreSharesOf, CountsFit}
use Rattle.turn_model.specs.Endings.{HasRoom, work_by}
use Rattle.turn_model.specs.Tellings.{Telling, HaveTold, IsMerged}
use Rattle.run_laws.specs.Ends.{IsWork, IsPlayed}

-- no time is longer than a meter's answer is taken to be
abbrev pub AreShort : List Move → Type 0
AreShort [] = Unit {0}
AreShort (Made a t ∷ ms) = (t ≤ 2 ^ 36) × AreShort ms
AreShort (Exchanged ∷ ms) = AreShort ms

-- a run at whose end every worker is over
pub record IsWhole (d : Shape) (load : Workload) (run : Run) : Type 0 where
  pub work : IsWork d load
  pub no_more : (q : ℕ) → d.queries ≤ q → load.stages q ≡ 0
  pub played : IsPlayed d load run
  pub short : (w : ℕ) → w < d.workers → AreShort (run.team w)
  pub over : AllOver d load run

-- ---- the laws, as the functions of module `laws` state them

-- the counts of each worker of a run fit
abbrev pub CountsAreSmall : Type 0
CountsAreSmall = (d : Shape) (load : Workload) (run : Run) (w : ℕ) → d.queries ≤ MOST_QUERIES
    → IsPlayed d load run → w < d.workers → AreShort (run.team w)
    → CountsFit (desk_at d load w) (run.team w)

-- the shares of all workers, worker by worker, are those of the run
abbrev pub SharesAreMerged : Type 0
SharesAreMerged = (d : Shape) (load : Workload) (run : Run) (told : List (List Share))
    → d.queries ≤ MOST_QUERIES → IsPlayed d load run → length told ≡ d.workers
    → ((w : ℕ) (shares : List Share) → slice_get told w ≡ Some shares
    → AreSharesOf (desk_at d load w) (run.team w) shares)
    → AreShares d load run.team (flat_map (λ (shares : List Share). shares) told)

-- in the end each worker has had room for what it tells
abbrev pub RoomIsLeft : Type 0
RoomIsLeft = (d : Shape) (load : Workload) (run : Run) (w : ℕ) → IsWhole d load run → w < d.workers
    → HasRoom (desk_at d load w) (work_by (desk_at d load w) (run.team w))

-- such a report is the report of the run
abbrev pub MergedIsReport : Type 0
MergedIsReport = (d : Shape) (load : Workload) (run : Run) (told : List Telling) (report : Report)
    → IsWhole d load run → HaveTold d load run told → IsMerged told report
    → IsReportOf d load run report
