use Rattle.slot_history.specs.Calls.{Installing}
use Rattle.slot_words.proofs.Law.{law}
use Rattle.slot_words.proofs.laws.install.Goals as goal

pub returns : goal.returns
returns c id = law (Installing id)
