use Rattle.slot_history.proofs.laws.counts.Goals as goal
use Rattle.slot_history.proofs.Counts.{counts}

pub returns : goal.returns
returns c = counts
