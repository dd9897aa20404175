use Rattle.slot_history.specs.Calls.{Paying}
use Rattle.slot_words.proofs.Law.{law}
use Rattle.slot_words.proofs.laws.pay.Goals as goal

pub returns : goal.returns
returns c = law Paying
