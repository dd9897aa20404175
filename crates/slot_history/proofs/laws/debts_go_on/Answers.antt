use Rattle.slot_history.proofs.laws.debts_go_on.Goals as goal
use Rattle.slot_history.proofs.Table.{table}
use Rattle.slot_history.proofs.Payments.{debts-go-on}
use Rattle.slot_history.specs.Steps.{state_after}

pub returns : goal.returns
returns c d h legal = debts-go-on d (state_after d h) (table d h legal)
