use Rattle.std.proofs.Common.{◌≡◌, take}
use Rattle.std.specs.List.{flat_map}
use Rattle.bench_cell.specs.Gathering.{claims_in}
use Rattle.bench_cell.proofs.claims.claims_of.Given as goal

abbrev pub invariant-loop-bench : goal.invariant-loop-bench
invariant-loop-bench l = l.claims.items ≡ flat_map claims_in (take l.bench-index l.benches)
