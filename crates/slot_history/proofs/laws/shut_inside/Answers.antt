use Rattle.slot_history.proofs.laws.shut_inside.Goals as goal
use Rattle.slot_history.proofs.Table.{table}
use Rattle.slot_history.proofs.Places.{shut-inside}
use Rattle.slot_history.specs.Steps.{state_after}

pub returns : goal.returns
returns c d h legal = shut-inside d (state_after d h) (table d h legal)
