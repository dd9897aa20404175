use Rattle.slot_history.proofs.laws.beginnings.holder_has_claims.Goals as goal
use Rattle.slot_history.proofs.Holders.{holder-tiles, holder-has-claims}

pub returns : goal.returns
returns c = record { tiles = holder-tiles; claims = holder-has-claims }
