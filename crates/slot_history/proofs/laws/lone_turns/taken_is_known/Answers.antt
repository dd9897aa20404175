use Rattle.slot_history.proofs.laws.lone_turns.taken_is_known.Goals as goal
use Rattle.slot_history.proofs.Taken.{taken-is-known}

pub returns : goal.returns
returns c = taken-is-known
