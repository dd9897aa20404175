use Rattle.slot_words.proofs.Slots.{states-are-packed}
use Rattle.slot_words.proofs.laws.states_are_packed.Goals as goal

pub returns : goal.returns
returns c = states-are-packed
