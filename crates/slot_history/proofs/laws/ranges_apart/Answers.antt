use Rattle.slot_history.proofs.laws.ranges_apart.Goals as goal
use Rattle.slot_history.proofs.Ranges.{ranges-apart}

pub returns : goal.returns
returns c = ranges-apart
