use Rattle.slot_history.specs.Calls.{NotingDone}
use Rattle.slot_words.proofs.Law.{law}
use Rattle.slot_words.proofs.laws.note_done.Goals as goal

pub returns : goal.returns
returns c k = law (NotingDone k)
