use Rattle.slot_history.proofs.laws.slots_sound.Goals as goal
use Rattle.slot_history.proofs.Holdings.{slots-sound}

pub returns : goal.returns
returns c = slots-sound
