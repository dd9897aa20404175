use Rattle.slot_history.specs.Calls.{Reserving}
use Rattle.slot_words.proofs.Law.{law}
use Rattle.slot_words.proofs.laws.reserve.Goals as goal

pub returns : goal.returns
returns c s = law (Reserving s)
