use Rattle.slot_history.proofs.laws.beginnings.task_sets_stay.Goals as goal
use Rattle.slot_history.proofs.TaskSetsKept.{task-sets-stay}

pub returns : goal.returns
returns c = task-sets-stay
