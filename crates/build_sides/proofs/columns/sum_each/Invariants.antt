use Rattle.std.proofs.Common.{◌≡◌, length}
use Rattle.build_sides.specs.Columns.{puts, value_by, wrapped_sum}
use Rattle.build_sides.proofs.columns.sum_each.Given as goal

abbrev pub invariant-loop-place : goal.invariant-loop-place
invariant-loop-place l = record {
  same : length l.sums ≡ length l.initial.sums;
  is : l.sums ≡ puts wrapped_sum l.initial.sums l.numbers (value_by l.column l.rows) l.place;
}
