use Rattle.slot_history.specs.Calls.{TakingChange}
use Rattle.slot_words.proofs.Law.{law}
use Rattle.slot_words.proofs.laws.take_change.Goals as goal

pub returns : goal.returns
returns c part = law (TakingChange part)
