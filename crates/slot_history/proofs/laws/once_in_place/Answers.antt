use Rattle.slot_history.proofs.laws.once_in_place.Goals as goal
use Rattle.slot_history.proofs.TaskSets.{once-in-place}

pub returns : goal.returns
returns c = once-in-place
