use Rattle.slot_history.proofs.laws.finishing_last.Goals as goal
use Rattle.slot_history.proofs.Claims.{finishing-last}

pub returns : goal.returns
returns c = finishing-last
