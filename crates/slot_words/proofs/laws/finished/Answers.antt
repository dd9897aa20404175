use Rattle.slot_history.specs.Calls.{AskingFinished}
use Rattle.slot_words.proofs.Law.{law}
use Rattle.slot_words.proofs.laws.finished.Goals as goal

pub returns : goal.returns
returns c = law AskingFinished
