use Rattle.slot_history.specs.Calls.{Claiming}
use Rattle.slot_words.proofs.Law.{law}
use Rattle.slot_words.proofs.laws.claim.Goals as goal

pub returns : goal.returns
returns c k = law (Claiming k)
