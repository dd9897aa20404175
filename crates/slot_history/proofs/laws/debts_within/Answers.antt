use Rattle.slot_history.proofs.laws.debts_within.Goals as goal
use Rattle.slot_history.proofs.Table.{table}
use Rattle.slot_history.proofs.Places.{debts-within}
use Rattle.slot_history.specs.Steps.{state_after}

pub returns : goal.returns
returns c d h legal = debts-within d (state_after d h) (table d h legal)
