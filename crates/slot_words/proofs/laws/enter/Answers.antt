use Rattle.slot_history.specs.Calls.{Entering}
use Rattle.slot_words.proofs.Law.{law}
use Rattle.slot_words.proofs.laws.enter.Goals as goal

pub returns : goal.returns
returns c s = law (Entering s)
