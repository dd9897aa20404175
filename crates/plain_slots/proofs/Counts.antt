-- The number of finished task sets fits its type.
use Rattle.std.proofs.Common.{ℕ, ◌+◌, ◌^◌, ◌<◌, ◌≤◌, arith}
use Rattle.slot_history.specs.declared.shape.TheConstants.{STAGES}
use Rattle.slot_history.proofs.NotedSets.{finished-bound}
use Rattle.plain_slots.specs.declared.object.PlainObject.TheInside.{Inside}
use Rattle.slot_station.specs.Log.{calls_of}
use Rattle.plain_slots.proofs.Following.{Kept, bounded}

pub finished-fits : (o : Inside) (ok : Kept o) (k : ℕ) → k ≤ STAGES → o.finished + k < 2 ^ 32
finished-fits o ok k few =
    let all = finished-bound o.shape (calls_of o.log) ok.legal in
    let is = ok.finished_is in
    let most = (bounded o ok).admitted in
    let queries = ok.shape.queries in omega arith
