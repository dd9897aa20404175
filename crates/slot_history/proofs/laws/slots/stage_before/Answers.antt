use Rattle.slot_history.proofs.laws.slots.stage_before.Goals as goal
use Rattle.slot_history.proofs.Looks.{stage-before}

pub returns : goal.returns
returns c = stage-before
