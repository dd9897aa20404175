use Rattle.turn_model.proofs.Measure.{falls-as-one}
use Rattle.turn_model.proofs.laws.numbers_are_one.Goals as goal

pub returns : goal.returns
returns c = falls-as-one
