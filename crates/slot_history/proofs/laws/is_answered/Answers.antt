use Rattle.slot_history.proofs.laws.is_answered.Goals as goal
use Rattle.slot_history.proofs.Table.{table}
use Rattle.slot_history.proofs.OneAnswer.{is-answered}
use Rattle.slot_history.specs.Steps.{state_after}

pub returns : goal.returns
returns c d h legal = is-answered d (state_after d h) (table d h legal)
