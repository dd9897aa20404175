use Rattle.slot_history.proofs.laws.table.Goals as goal
use Rattle.slot_history.proofs.Table.{table}

pub returns : goal.returns
returns c = table
