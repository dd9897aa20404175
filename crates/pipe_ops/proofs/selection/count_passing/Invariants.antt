use Rattle.std.proofs.Common.{◌≡◌, ◌≤◌, filter, length}
use Rattle.pipe_ops.specs.Selection.{compares_at}
use Rattle.pipe_ops.specs.StagePlaces.{numbers_from}
use Rattle.pipe_ops.proofs.selection.count_passing.Given as goal

abbrev pub invariant-loop-row : goal.invariant-loop-row
invariant-loop-row l = record {
  few : l.count ≤ l.row;
  is : l.count ≡ length (filter (compares_at l.op l.column l.value) (numbers_from l.from l.row));
}
