use Rattle.slot_history.specs.Calls.{AnnouncingNext}
use Rattle.slot_words.proofs.Law.{law}
use Rattle.slot_words.proofs.laws.announce.Goals as goal

pub returns : goal.returns
returns c = law AnnouncingNext
