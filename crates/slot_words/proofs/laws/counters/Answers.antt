use Rattle.slot_words.proofs.Counters.{counters-say}
use Rattle.slot_words.proofs.laws.counters.Goals as goal

pub returns : goal.returns
returns c = counters-say
