use Rattle.slot_history.proofs.Known.{look-is-known}
use Rattle.slot_history.proofs.laws.lone_turns.look_is_known.Goals as goal

pub returns : goal.returns
returns c = look-is-known
