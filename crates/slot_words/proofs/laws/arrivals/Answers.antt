use Rattle.slot_history.specs.Calls.{AskingArrivals}
use Rattle.slot_words.proofs.Law.{law}
use Rattle.slot_words.proofs.laws.arrivals.Goals as goal

pub returns : goal.returns
returns c = law AskingArrivals
