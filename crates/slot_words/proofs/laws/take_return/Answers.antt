use Rattle.slot_history.specs.Calls.{TakingReturn}
use Rattle.slot_words.proofs.Law.{law}
use Rattle.slot_words.proofs.laws.take_return.Goals as goal

pub returns : goal.returns
returns c part = law (TakingReturn part)
