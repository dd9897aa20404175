use Rattle.turn_model.proofs.Keeping.{looks-keep, ranges-keep}
use Rattle.turn_model.proofs.laws.slots_are_kept.Goals as goal

pub returns : goal.returns
returns c = record { looks = looks-keep; ranges = ranges-keep }
