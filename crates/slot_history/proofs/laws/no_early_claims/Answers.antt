use Rattle.slot_history.proofs.laws.no_early_claims.Goals as goal
use Rattle.slot_history.proofs.Claims.{no-early-claims}

pub returns : goal.returns
returns c = no-early-claims
