use Rattle.slot_history.proofs.laws.beginnings.whole_by_own_calls.Goals as goal
use Rattle.slot_history.proofs.Beginnings.{whole-by-own-calls, own-between}

pub returns : goal.returns
returns c = record { whole = whole-by-own-calls; between = own-between }
