-- The report of a run.
use Rattle.std.specs.Prelude.{◌≡◌, ◌⊎◌, ℕ, ◌+◌, ◌*◌, ◌-◌, ◌<◌, Bool, true, false, cond, eqb}
use Rattle.std.specs.Prelude.{List, [], ◌∷◌, ◌++◌, All, length, map, reverse, sum, slice_get, Some}
use Rattle.slot_history.specs.declared.shape.Shape.{Shape}
use Rattle.slot_history.specs.declared.shape.TheConstants.{STAGES, MOST_QUERIES}
use Rattle.slot_history.specs.declared.act.Act.{Act}
use Rattle.slot_history.specs.declared.act.Act.TheVariants.{ClaimRange}
use Rattle.slot_history.specs.declared.act.Entry.{Entry}
use Rattle.slot_history.specs.Histories.{Morsel, claims_of, lasts_of, finisher_of, slot_with}
use Rattle.slot_history.specs.Histories as history
use Rattle.slot_station.specs.Desks.{Desk}
use Rattle.report_text.specs.declared.replies.QueryReply.{QueryReply}
use Rattle.report_text.specs.declared.replies.Reply.{Reply}
use Rattle.report_text.specs.declared.replies.Reply.TheVariants.{Answer, Memory}
use Rattle.report_text.specs.declared.report.ClaimOf.{ClaimOf}
use Rattle.report_text.specs.declared.report.Record.{Record}
use Rattle.report_text.specs.declared.report.Share.{Share}
use Rattle.report_text.specs.declared.report.Gap.{Gap}
use Rattle.report_text.specs.declared.report.Report.{Report}
use Rattle.turn_model.specs.Workloads.{Workload}
use Rattle.turn_model.specs.Moves.{Move, Made, Exchanged}
use Rattle.turn_model.specs.Learned.{query_by, priority_in, strides_by, time_in}
use Rattle.turn_model.specs.Runs.{Run, desk_at}

-- the numbers of a list ascend
abbrev pub Ascend : {A : Type 0} → (A → ℕ) → List A → Type 0
Ascend {A} number items = (i j : ℕ) (x y : A) → i < j → slice_get items i ≡ Some x
    → slice_get items j ≡ Some y → number x < number y

-- an item of the list meets P
abbrev pub Has : {A : Type 0} → (A → Type 0) → List A → Type 0
Has {A} P items = (i : ℕ) × (x : A) × (slice_get items i ≡ Some x) × P x

-- ---- replies

-- the reply to a query is its one-thread answer, or says that memory ran out
abbrev pub IsReplyTo : Workload → ℕ → Reply → Type 0
IsReplyTo load q (Answer answer) = load.answer q ≡ Some answer
IsReplyTo load q Memory = Unit {0}

-- exactly one reply to each query, in order
pub record AreReplies (d : Shape) (load : Workload) (replies : List QueryReply) : Type 0 where
  pub count : length replies ≡ d.queries
  pub in_order : (q : ℕ) (r : QueryReply) → slice_get replies q ≡ Some r → r.query ≡ q
  pub answers : All (λ (r : QueryReply). IsReplyTo load r.query r.reply) replies

-- the reply to the query says that memory ran out
abbrev pub RanOut : ℕ → List QueryReply → Type 0
RanOut q replies = Has (λ (r : QueryReply). (r.query ≡ q) × (r.reply ≡ Memory)) replies

-- ---- records

abbrev pub as_claim : Morsel → ClaimOf
as_claim m = record { from = m.from; to = m.to; worker = m.worker }

abbrev pub id_of_record : Record → ℕ
id_of_record kept = STAGES * kept.query + kept.stage

-- the record of a task set that was finalised in a history; a short one has no claims
pub record IsRecordIn (d : Shape) (load : Workload) (h : List Entry) (kept : Record) : Type 0 where
  pub stage : kept.stage < load.stages kept.query
  pub last : lasts_of d (id_of_record kept) h ≡ 1
  pub slot : slot_with d (id_of_record kept) h ≡ Some kept.slot
  pub total : history.total_of d (id_of_record kept) h ≡ Some kept.total
  pub of_load : load.total (id_of_record kept) ≡ Some kept.total
  pub finisher : finisher_of d (id_of_record kept) h ≡ Some kept.finisher
  pub claims : kept.claims
      ≡ cond kept.short [] (reverse (map as_claim (claims_of d (id_of_record kept) h)))

-- exactly one record of each task set that was finalised, ascending
pub record AreRecords (d : Shape) (load : Workload) (h : List Entry) (records : List Record)
    : Type 0 where
  pub each : All (IsRecordIn d load h) records
  pub all : (id : ℕ) → 0 < lasts_of d id h → Has (λ (kept : Record). id_of_record kept ≡ id) records
  pub ascend : Ascend id_of_record records

-- the query of a short record ran out of memory, and a query that did not has a whole record of
-- each of its stages
pub record AreAnswered (load : Workload) (report : Report) : Type 0 where
  pub short : (i : ℕ) (kept : Record) → slice_get report.records i ≡ Some kept
      → kept.short ≡ true → RanOut kept.query report.replies
  pub whole : (q k : ℕ) → k < load.stages q → RanOut q report.replies
      ⊎ Has (λ (kept : Record). (id_of_record kept ≡ STAGES * q + k) × (kept.short ≡ false))
      report.records

-- ---- shares and gaps

-- the tuples of ranges after a call; a range counts if it is `here`: of the query
abbrev pub tuples_after : Act → Bool → List ℕ → List ℕ
tuples_after (ClaimRange n from to) here before = cond here (before ++ (to - from) ∷ []) before
tuples_after _ here before = before

-- the tuples of each of the worker's ranges of a query
abbrev pub tuples_by : Desk Workload → ℕ → List Move → List ℕ
tuples_by D q [] = []
tuples_by D q (Made a t ∷ ms) = tuples_after a (eqb (query_by D ms) q) (tuples_by D q ms)
tuples_by D q (Exchanged ∷ ms) = tuples_by D q ms

-- what a worker did for a query on which it worked
pub record IsShareOf (D : Desk Workload) (ms : List Move) (share : Share) : Type 0 where
  pub some : 0 < length (tuples_by D share.query ms)
  pub worker : share.worker ≡ D.worker
  pub ranges : share.ranges ≡ length (tuples_by D share.query ms)
  pub tuples : share.tuples ≡ sum (tuples_by D share.query ms)
  pub ns : share.ns ≡ time_in D share.query ms
  pub priority : share.priority ≡ priority_in D share.query ms

pub record IsGapOf (D : Desk Workload) (ms : List Move) (gap : Gap) : Type 0 where
  pub worker : gap.worker ≡ D.worker
  pub widest : gap.widest ≡ (strides_by D ms).widest
  pub largest : gap.largest ≡ (strides_by D ms).largest

-- shares ascend by worker, and those of one worker by query
abbrev pub number_of_share : Share → ℕ
number_of_share share = share.worker * MOST_QUERIES + share.query

module _ (d : Shape) (load : Workload) (team : ℕ → List Move) where
  -- exactly one share of each worker and each query on which it worked
  pub record AreShares (shares : List Share) : Type 0 where
    pub low : All (λ (share : Share). (share.worker < d.workers) × (share.query < MOST_QUERIES))
        shares
    pub each : All
        (λ (share : Share). IsShareOf (desk_at d load share.worker) (team share.worker) share)
        shares
    pub all : (w q : ℕ) → w < d.workers → 0 < length (tuples_by (desk_at d load w) q (team w))
        → Has (λ (share : Share). (share.worker ≡ w) × (share.query ≡ q)) shares
    pub ascend : Ascend number_of_share shares

  -- exactly one gap of each worker, in order
  pub record AreGaps (gaps : List Gap) : Type 0 where
    pub count : length gaps ≡ d.workers
    pub each : (w : ℕ) (gap : Gap) → slice_get gaps w ≡ Some gap
        → IsGapOf (desk_at d load w) (team w) gap

-- the report of a run
pub record IsReportOf (d : Shape) (load : Workload) (run : Run) (report : Report) : Type 0 where
  pub replies : AreReplies d load report.replies
  pub records : AreRecords d load run.history report.records
  pub answered : AreAnswered load report
  pub shares : AreShares d load run.team report.shares
  pub gaps : AreGaps d load run.team report.gaps
