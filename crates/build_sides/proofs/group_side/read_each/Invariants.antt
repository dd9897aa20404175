use Rattle.std.proofs.Common.{ℕ, ◌<◌, w64, FitsSigned}
use Rattle.build_sides.specs.Columns.{value_by}
use Rattle.build_sides.proofs.group_side.read_each.Given as goal

abbrev pub invariant-loop-row : goal.invariant-loop-row
invariant-loop-row l = (k : ℕ) → k < l.row-index → FitsSigned w64 (value_by l.column l.rows k)
