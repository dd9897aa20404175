use Rattle.slot_history.specs.Calls.{MarkingNext}
use Rattle.slot_words.proofs.Law.{law}
use Rattle.slot_words.proofs.laws.mark_next.Goals as goal

pub returns : goal.returns
returns c = law MarkingNext
