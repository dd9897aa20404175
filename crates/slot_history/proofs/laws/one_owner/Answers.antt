use Rattle.slot_history.proofs.laws.one_owner.Goals as goal
use Rattle.slot_history.proofs.Table.{table}
use Rattle.slot_history.proofs.Places.{one-owner}
use Rattle.slot_history.specs.Steps.{state_after}

pub returns : goal.returns
returns c d h legal = one-owner d (state_after d h) (table d h legal)
