use Rattle.slot_history.specs.Calls.{Sweeping}
use Rattle.slot_words.proofs.Law.{law}
use Rattle.slot_words.proofs.laws.sweep.Goals as goal

pub returns : goal.returns
returns c = law Sweeping
