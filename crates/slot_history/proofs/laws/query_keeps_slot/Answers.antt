use Rattle.slot_history.proofs.laws.query_keeps_slot.Goals as goal
use Rattle.slot_history.proofs.Stages.{query-keeps-slot}

pub returns : goal.returns
returns c = query-keeps-slot
