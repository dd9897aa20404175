use Rattle.slot_words.proofs.Openings.{AreFilled}
use Rattle.slot_words.proofs.opening.first_words.Given as goal

abbrev pub invariant-loop-slot : goal.invariant-loop-slot
invariant-loop-slot l = AreFilled l.shape l.slot l.words.items
