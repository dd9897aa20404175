use Rattle.slot_history.proofs.laws.cursor_limit.Goals as goal
use Rattle.slot_history.proofs.Cursors.{cursors, cursor-limit}
use Rattle.slot_history.specs.Steps.{state_after}

pub returns : goal.returns
returns c d h legal = cursor-limit d (state_after d h) (cursors d h legal)
