use Rattle.std.proofs.Common.{◌≡◌, ◌≤◌, take}
use Rattle.std.specs.Prelude.{count_by}
use Rattle.report_text.specs.declared.replies.QueryReply.{QueryReply}
use Rattle.sched_tool.specs.Summaries.{is_answer}
use Rattle.sched_tool.proofs.program.summary.answered_of.Given as goal

abbrev pub invariant-loop-told : goal.invariant-loop-told
invariant-loop-told l = record {
  count : l.answered ≡ count_by (λ (told : QueryReply). is_answer told.reply) (take l.told-index l.replies);
  low : l.answered ≤ l.told-index;
}
