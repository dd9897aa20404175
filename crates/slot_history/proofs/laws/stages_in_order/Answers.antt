use Rattle.slot_history.proofs.laws.stages_in_order.Goals as goal
use Rattle.slot_history.proofs.Stages.{stages-in-order}

pub returns : goal.returns
returns c = stages-in-order
