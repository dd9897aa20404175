use Rattle.std.proofs.Common.{◌≡◌, ◌++◌, map, take}
use Rattle.bench_cell.specs.Gathering.{claim_by}
use Rattle.bench_cell.proofs.claims.note_claims.Given as goal

abbrev pub invariant-loop-from : goal.invariant-loop-from
invariant-loop-from l =
    (l.worker ≡ l.bench.worker) × (l.claims.items ≡ l.fn.claims.items ++ map (claim_by l.worker) (take l.from-index l.bench.ranges.items))
