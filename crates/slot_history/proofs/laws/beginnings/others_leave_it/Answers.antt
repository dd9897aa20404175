use Rattle.slot_history.proofs.laws.beginnings.others_leave_it.Goals as goal
use Rattle.slot_history.proofs.Beginnings.{others-leave-it}

pub returns : goal.returns
returns c = others-leave-it
