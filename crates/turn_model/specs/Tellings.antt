-- What workers tell of a run, and the report that it merges to.
use Rattle.std.specs.Prelude.{◌≡◌, ◌⊎◌, ℕ, true, List, All, length, map, flat_map, reverse}
use Rattle.std.specs.Prelude.{slice_get, Option, Some, None, IsPermutation, IsSortedByKey}
use Rattle.std.specs.Ordering.{nat_cmp}
use Rattle.slot_history.specs.declared.shape.Shape.{Shape}
use Rattle.slot_history.specs.declared.act.Entry.{Entry}
use Rattle.slot_history.specs.Histories.{IsLegal, Begins}
use Rattle.slot_station.specs.Desks.{Desk}
use Rattle.report_text.specs.declared.replies.QueryReply.{QueryReply}
use Rattle.report_text.specs.declared.report.Record.{Record}
use Rattle.report_text.specs.declared.report.Share.{Share}
use Rattle.report_text.specs.declared.report.Gap.{Gap}
use Rattle.report_text.specs.declared.report.Report.{Report}
use Rattle.turn_model.specs.Workloads.{Workload}
use Rattle.turn_model.specs.Moves.{Move}
use Rattle.turn_model.specs.Reports.{RanOut, IsGapOf, id_of_record}
use Rattle.turn_model.specs.Runs.{Run, desk_at}
use Rattle.turn_model.specs.Shares.{shares_by}
use Rattle.turn_model.specs.Endings.{Beside, Work, HasRoom, IsReplyAt, IsRecordAt, work_by}

-- what a worker tells: its replies, its records, its shares and its gap, and the query that it is
-- about to give up
pub record Telling : Type 0 where
  pub replies : List QueryReply
  pub records : List Record
  pub shares : List Share
  pub gap : Gap
  pub gives_up : Option ℕ

-- ---- one worker

-- the query of each short record ran out of memory, or is about to be given up
abbrev pub AreShortOut : List QueryReply → Option ℕ → List Record → Type 0
AreShortOut replies gives_up = All (λ (kept : Record). kept.short ≡ true
    → RanOut kept.query replies ⊎ (gives_up ≡ Some kept.query))

-- a reply for each holding that ended, and a record of each task set that was gathered
pub record IsOfWork (D : Desk Workload) (h : List Entry) (work : Work) (telling : Telling)
    : Type 0 where
  pub replies : Beside (IsReplyAt D.subject) (reverse telling.replies) work.ended
  pub records : Beside (IsRecordAt D h) (reverse telling.records) work.gathered
  pub short : AreShortOut telling.replies telling.gives_up telling.records

-- what a worker tells after these moves, if h has all its calls
pub record HasTold (D : Desk Workload) (h : List Entry) (ms : List Move) (telling : Telling)
    : Type 0 where
  pub of_work : IsOfWork D h (work_by D ms) telling
  pub shares : telling.shares ≡ shares_by D ms

-- ---- all workers

-- what each worker tells in the end, worker by worker
pub record HaveTold (d : Shape) (load : Workload) (run : Run) (told : List Telling) : Type 0 where
  pub count : length told ≡ d.workers
  pub each : (w : ℕ) (telling : Telling) → slice_get told w ≡ Some telling
      → HasRoom (desk_at d load w) (work_by (desk_at d load w) (run.team w))
      → HasTold (desk_at d load w) run.history (run.team w) telling
  pub gaps : (w : ℕ) (telling : Telling) → slice_get told w ≡ Some telling
      → IsGapOf (desk_at d load w) (run.team w) telling.gap
  pub given_up : (w : ℕ) (telling : Telling) → slice_get told w ≡ Some telling
      → telling.gives_up ≡ None

-- the report has all that the workers told: replies by query, records by task set, and shares and
-- gaps worker by worker
pub record IsMerged (told : List Telling) (report : Report) : Type 0 where
  pub replies : IsPermutation (flat_map (λ (t : Telling). t.replies) told) report.replies
  pub by_query : IsSortedByKey (λ (r : QueryReply). r.query) nat_cmp report.replies
  pub records : IsPermutation (flat_map (λ (t : Telling). t.records) told) report.records
  pub by_task : IsSortedByKey id_of_record nat_cmp report.records
  pub shares : report.shares ≡ flat_map (λ (t : Telling). t.shares) told
  pub gaps : report.gaps ≡ map (λ (t : Telling). t.gap) told

-- ---- the law, as the function of module `laws` states it

-- what a worker told early still holds of a later history
abbrev pub ToldStays : Type 0
ToldStays = (D : Desk Workload) (h early : List Entry) (ms : List Move) (telling : Telling)
    → IsLegal D.shape h → Begins h early → HasTold D early ms telling → HasTold D h ms telling
