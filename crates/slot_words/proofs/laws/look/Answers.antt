use Rattle.slot_history.specs.Calls.{Looking}
use Rattle.slot_words.proofs.Law.{law}
use Rattle.slot_words.proofs.laws.look.Goals as goal

pub returns : goal.returns
returns c = law Looking
