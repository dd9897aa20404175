use Rattle.turn_model.proofs.Activity.{active-by-records}
use Rattle.turn_model.proofs.laws.active_by_records.Goals as goal

pub returns : goal.returns
returns c = active-by-records
