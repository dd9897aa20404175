use Rattle.slot_history.proofs.laws.own_entries.Goals as goal
use Rattle.slot_history.proofs.Own.{own-entries}

pub returns : goal.returns
returns c = λ d h legal. own-entries d h
