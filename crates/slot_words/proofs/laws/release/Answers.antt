use Rattle.slot_history.specs.Calls.{Releasing}
use Rattle.slot_words.proofs.Law.{law}
use Rattle.slot_words.proofs.laws.release.Goals as goal

pub returns : goal.returns
returns c = law Releasing
