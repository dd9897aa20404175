use Rattle.std.proofs.Common.{take}
use Rattle.sched_tool.specs.Runs.{AnswerAll}
use Rattle.sched_tool.proofs.program.output.lack_answer.Given as goal

abbrev pub invariant-loop-told : goal.invariant-loop-told
invariant-loop-told l = AnswerAll (take l.told-index l.replies)
