use Rattle.std.proofs.Common.{refl}
use Rattle.sched_tool.proofs.SubjectsLemmas.{holds_too_much}
use Rattle.sched_tool.proofs.program.subject.open_script.Goals as goal

pub returns-in-Err-TooLong-clause-err : goal.returns-in-Err-TooLong-clause-err
returns-in-Err-TooLong-clause-err g c = holds_too_much _ _ (c.in-Err-TooLong.ensures.too_long (rw c.in-Err-TooLong.field-0-is refl))
