use Rattle.slot_history.proofs.laws.cursors.Goals as goal
use Rattle.slot_history.proofs.Cursors.{cursors}

pub returns : goal.returns
returns c = cursors
