use Rattle.slot_history.specs.Calls.{Leaving}
use Rattle.slot_words.proofs.Law.{law}
use Rattle.slot_words.proofs.laws.leave.Goals as goal

pub returns : goal.returns
returns c = law Leaving
