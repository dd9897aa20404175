use Rattle.slot_history.proofs.laws.tiles_total.Goals as goal
use Rattle.slot_history.proofs.Claims.{tiles-total}

pub returns : goal.returns
returns c = tiles-total
