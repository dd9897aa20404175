use Rattle.slot_history.proofs.laws.slots.finisher.Goals as goal
use Rattle.slot_history.proofs.Finishers.{has-finisher, holder-is-finisher, finisher-stays}

pub returns : goal.returns
returns c = record { has = has-finisher; holder = holder-is-finisher; stays = finisher-stays }
