use Rattle.slot_history.proofs.laws.quiet_slots.Goals as goal
use Rattle.slot_history.proofs.Table.{table}
use Rattle.slot_history.proofs.Places.{quiet-slots}
use Rattle.slot_history.specs.Steps.{state_after}

pub returns : goal.returns
returns c d h legal = quiet-slots d (state_after d h) (table d h legal)
