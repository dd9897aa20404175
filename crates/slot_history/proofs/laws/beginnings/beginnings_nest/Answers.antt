use Rattle.slot_history.proofs.laws.beginnings.beginnings_nest.Goals as goal
use Rattle.slot_history.proofs.Beginnings.{begins-legal, begins-nest}

pub returns : goal.returns
returns c = record { legal = begins-legal; nest = begins-nest }
