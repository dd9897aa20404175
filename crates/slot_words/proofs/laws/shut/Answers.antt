use Rattle.slot_history.specs.Calls.{Shutting}
use Rattle.slot_words.proofs.Law.{law}
use Rattle.slot_words.proofs.laws.shut.Goals as goal

pub returns : goal.returns
returns c = law Shutting
