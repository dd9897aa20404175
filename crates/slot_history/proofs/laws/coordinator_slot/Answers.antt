use Rattle.slot_history.proofs.laws.coordinator_slot.Goals as goal
use Rattle.slot_history.proofs.Table.{table}
use Rattle.slot_history.proofs.Coordinators.{led}
use Rattle.slot_history.specs.Steps.{state_after}

pub returns : goal.returns
returns c d h legal = led d (state_after d h) (table d h legal)
