use Rattle.slot_history.proofs.laws.within.Goals as goal
use Rattle.slot_history.proofs.Within.{within}

pub returns : goal.returns
returns c = within
