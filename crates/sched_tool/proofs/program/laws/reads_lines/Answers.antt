use Rattle.sched_tool.proofs.ItemLemmas.{reads_lines}
use Rattle.sched_tool.proofs.program.laws.reads_lines.Goals as goal

pub returns : goal.returns
returns c = reads_lines
