use Rattle.sched_tool.proofs.OneTextLemmas.{one_text}
use Rattle.sched_tool.proofs.program.laws.one_text.Goals as goal

pub returns : goal.returns
returns c = one_text
