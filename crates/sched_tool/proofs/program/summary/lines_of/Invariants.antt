use Rattle.std.proofs.Common.{◌≡◌, ◌≤◌, ◌*◌, ◌-◌, ◌^◌, take}
use Rattle.std.specs.Prelude.{sum_by}
use Rattle.report_text.specs.declared.replies.QueryReply.{QueryReply}
use Rattle.sched_tool.specs.Summaries.{lines_in}
use Rattle.sched_tool.proofs.program.summary.lines_of.Given as goal

abbrev pub invariant-loop-told : goal.invariant-loop-told
invariant-loop-told l = record {
  sum : l.lines ≡ sum_by (λ (told : QueryReply). lines_in told.reply) (take l.told-index l.replies);
  low : l.lines ≤ l.told-index * (2 ^ 64 - 1);
}
