use Rattle.slot_history.proofs.laws.tiles_cursor.Goals as goal
use Rattle.slot_history.proofs.Claims.{tiles-cursor}

pub returns : goal.returns
returns c = tiles-cursor
