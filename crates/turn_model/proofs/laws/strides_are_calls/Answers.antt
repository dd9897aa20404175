use Rattle.turn_model.proofs.Fitting.{strides-are-calls}
use Rattle.turn_model.proofs.laws.strides_are_calls.Goals as goal

pub returns : goal.returns
returns c = strides-are-calls
