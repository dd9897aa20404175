use Rattle.slot_history.proofs.laws.ranges_go_on.Goals as goal
use Rattle.slot_history.proofs.Ranges.{claims-go-on, ranges-go-on}

pub returns : goal.returns
returns c = record { claims = claims-go-on; ranges = ranges-go-on }
