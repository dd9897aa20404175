-- The printed text of a report: the answers, the shares of the workers, and the journal.
use Rattle.std.specs.Prelude.{ℕ, List, [], ◌++◌, ◌==◌, decimal, cond, if◌then◌else◌, flat_map}
use Rattle.std.specs.Prelude.{codes}
use Rattle.report_text.specs.AnswersText.{answers_bytes, line}
use Rattle.report_text.specs.declared.report.ClaimOf.{ClaimOf}
use Rattle.report_text.specs.declared.report.Record.{Record}
use Rattle.report_text.specs.declared.report.Share.{Share}
use Rattle.report_text.specs.declared.report.Gap.{Gap}
use Rattle.report_text.specs.declared.report.Report.{Report}

-- how much a worker did for a query
abbrev pub work_text : Share → List ℕ
work_text share = codes " ranges " ++ decimal share.ranges
    ++ codes " tuples " ++ decimal share.tuples
    ++ codes " ns " ++ decimal share.ns
    ++ codes " priority " ++ decimal share.priority

-- what a worker did for a query
abbrev pub share_line : Share → List ℕ
share_line share = codes "worker " ++ decimal share.worker
    ++ codes " query " ++ decimal share.query
    ++ work_text share

-- how far apart a worker's passes were
abbrev pub gap_line : Gap → List ℕ
gap_line gap = codes "worker " ++ decimal gap.worker ++ codes " widest " ++ decimal gap.widest
    ++ codes " largest " ++ decimal gap.largest

-- the line of a share, where it is this worker's
abbrev pub own_share : ℕ → Share → List ℕ
own_share worker share = if share.worker == worker then line (share_line share) else []

-- the lines of a worker: its shares, and then its gap
abbrev pub worker_bytes : List Share → Gap → List ℕ
worker_bytes shares gap = flat_map (own_share gap.worker) shares ++ line (gap_line gap)

-- a claimed morsel
abbrev pub claim_line : ClaimOf → List ℕ
claim_line claim = codes "claim " ++ decimal claim.from ++ codes " " ++ decimal claim.to
    ++ codes " worker " ++ decimal claim.worker

-- how large a task set was, who finalised it, and whether it is short
abbrev pub end_text : Record → List ℕ
end_text set = codes " total " ++ decimal set.total
    ++ codes " finisher " ++ decimal set.finisher
    ++ cond set.short (codes " short") (codes "")

-- a finalised task set
abbrev pub set_line : Record → List ℕ
set_line set = codes "set " ++ decimal set.query ++ codes "." ++ decimal set.stage
    ++ codes " slot " ++ decimal set.slot
    ++ end_text set

-- the lines of a finalised task set: itself, and then its claims
abbrev pub set_bytes : Record → List ℕ
set_bytes set = line (set_line set) ++ flat_map (λ claim. line (claim_line claim)) set.claims

-- the text of a report
abbrev pub report_bytes : Report → List ℕ
report_bytes report = answers_bytes report.replies
    ++ line (codes "shares") ++ flat_map (worker_bytes report.shares) report.gaps
    ++ line (codes "journal") ++ flat_map set_bytes report.records
    ++ line (codes "end")
