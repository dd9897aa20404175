use Rattle.slot_history.proofs.Arrivals.{arrivals-stay, admit-is-got}
use Rattle.slot_history.proofs.laws.lone_turns.arrivals_stay.Goals as goal

pub returns : goal.returns
returns c = record { number = arrivals-stay; got = admit-is-got }
