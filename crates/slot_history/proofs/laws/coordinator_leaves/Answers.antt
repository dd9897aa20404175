use Rattle.slot_history.proofs.laws.coordinator_leaves.Goals as goal
use Rattle.slot_history.proofs.Stations.{coordinator-leaves}

pub returns : goal.returns
returns c = coordinator-leaves
