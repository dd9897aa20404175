use Rattle.slot_history.proofs.Known.{quiet-is-known}
use Rattle.slot_history.proofs.laws.lone_turns.quiet_is_known.Goals as goal

pub returns : goal.returns
returns c = quiet-is-known
