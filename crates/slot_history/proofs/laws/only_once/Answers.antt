use Rattle.slot_history.proofs.laws.only_once.Goals as goal
use Rattle.slot_history.proofs.Counts.{only-once}

pub returns : goal.returns
returns c = only-once
