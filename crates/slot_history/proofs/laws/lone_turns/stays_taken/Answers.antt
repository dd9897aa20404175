use Rattle.slot_history.proofs.Known.{notices-taken}
use Rattle.slot_history.proofs.laws.lone_turns.stays_taken.Goals as goal

pub returns : goal.returns
returns c = notices-taken
