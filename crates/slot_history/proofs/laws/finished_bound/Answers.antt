use Rattle.slot_history.proofs.laws.finished_bound.Goals as goal
use Rattle.slot_history.proofs.NotedSets.{finished-bound}

pub returns : goal.returns
returns c = finished-bound
