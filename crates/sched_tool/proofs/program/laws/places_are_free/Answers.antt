use Rattle.sched_tool.proofs.ItemLemmas.{places_are_free}
use Rattle.sched_tool.proofs.program.laws.places_are_free.Goals as goal

pub returns : goal.returns
returns c = places_are_free
