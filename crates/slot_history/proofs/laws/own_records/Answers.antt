use Rattle.slot_history.proofs.laws.own_records.Goals as goal
use Rattle.slot_history.proofs.OwnRecords.{own-records}

pub returns : goal.returns
returns c = own-records
