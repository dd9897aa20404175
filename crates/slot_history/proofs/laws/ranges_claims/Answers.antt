use Rattle.slot_history.proofs.laws.ranges_claims.Goals as goal
use Rattle.slot_history.proofs.Claims.{ranges-claims}

pub returns : goal.returns
returns c = λ d h legal w id. ranges-claims d w id h
