use Rattle.turn_model.proofs.RecordsStay.{record-stays, told-stays}
use Rattle.turn_model.proofs.laws.told_stays.Goals as goal

pub returns : goal.returns
returns c = record { records = record-stays; told = told-stays }
