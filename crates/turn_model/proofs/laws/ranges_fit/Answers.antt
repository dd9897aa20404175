use Rattle.turn_model.proofs.Fitting.{size-fits, range-fits}
use Rattle.turn_model.proofs.laws.ranges_fit.Goals as goal

pub returns : goal.returns
returns c = record { size = size-fits; range = range-fits }
