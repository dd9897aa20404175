use Rattle.slot_history.proofs.laws.coordinator_owes_nothing.Goals as goal
use Rattle.slot_history.proofs.Table.{table}
use Rattle.slot_history.proofs.Places.{coordinator-owes-nothing}
use Rattle.slot_history.specs.Steps.{state_after}

pub returns : goal.returns
returns c d h legal = coordinator-owes-nothing d (state_after d h) (table d h legal)
