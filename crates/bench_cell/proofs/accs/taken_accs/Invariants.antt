use Rattle.std.proofs.Common.{◌≡◌, ◌+◌, ◌++◌, Some, length, map, reverse}
use Rattle.std.specs.Vec.{vec_capacity}
use Rattle.bench_cell.specs.Benches.{acc_in}
use Rattle.bench_cell.proofs.accs.taken_accs.Given as goal

abbrev pub invariant-loop : goal.invariant-loop
invariant-loop l = record {
  room : vec_capacity l.benches ≡ vec_capacity l.fn.benches;
  rest : length l.benches.items + l.counter ≡ length l.fn.benches.items;
  taken : map Some l.accs.items ++ reverse (map acc_in l.benches.items) ≡ map acc_in l.fn.benches.items;
}
