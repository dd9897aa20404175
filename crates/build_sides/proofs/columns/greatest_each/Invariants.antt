use Rattle.std.proofs.Common.{◌≡◌, length}
use Rattle.std.specs.Int.{int_max}
use Rattle.build_sides.specs.Columns.{puts, value_by}
use Rattle.build_sides.proofs.columns.greatest_each.Given as goal

abbrev pub invariant-loop-place : goal.invariant-loop-place
invariant-loop-place l = record {
  same : length l.values ≡ length l.initial.values;
  is : l.values ≡ puts int_max l.initial.values l.numbers (value_by l.column l.rows) l.place;
}
