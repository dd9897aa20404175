use Rattle.std.proofs.Common.{refl}
use Rattle.station_rows.proofs.hand.hand_at.Goals as goal

pub returns-in-Holding : goal.returns-in-Holding
returns-in-Holding c d workers = let x = c.in-Holding in
    record { worker = refl; noted = x.held.noted; total = x.held.total; place = x.is }
