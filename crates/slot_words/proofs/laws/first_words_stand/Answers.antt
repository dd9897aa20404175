use Rattle.slot_words.proofs.Openings.{first-words-stand}
use Rattle.slot_words.proofs.laws.first_words_stand.Goals as goal

pub returns : goal.returns
returns c = first-words-stand
