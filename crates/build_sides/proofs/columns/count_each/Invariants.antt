use Rattle.std.proofs.Common.{◌≡◌, length}
use Rattle.build_sides.specs.Columns.{count_sum, puts}
use Rattle.build_sides.proofs.columns.count_each.Given as goal

abbrev pub invariant-loop-number : goal.invariant-loop-number
invariant-loop-number l = record {
  same : length l.counts ≡ length l.initial.counts;
  is : l.counts ≡ puts count_sum l.initial.counts l.numbers (λ _. 1) l.number-index;
}
