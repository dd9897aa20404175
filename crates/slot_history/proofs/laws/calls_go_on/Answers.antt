use Rattle.slot_history.proofs.laws.calls_go_on.Goals as goal
use Rattle.slot_history.proofs.Own.{calls-go-on}

pub returns : goal.returns
returns c = calls-go-on
