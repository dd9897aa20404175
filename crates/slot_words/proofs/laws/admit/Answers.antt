use Rattle.slot_history.specs.Calls.{Admitting}
use Rattle.slot_words.proofs.Law.{law}
use Rattle.slot_words.proofs.laws.admit.Goals as goal

pub returns : goal.returns
returns c q = law (Admitting q)
