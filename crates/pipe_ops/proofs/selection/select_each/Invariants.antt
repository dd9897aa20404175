use Rattle.std.proofs.Common.{◌≡◌, ◌+◌, ◌≤◌, filter, length, take}
use Rattle.pipe_ops.specs.Selection.{compares_at}
use Rattle.pipe_ops.specs.StagePlaces.{numbers_from}
use Rattle.pipe_ops.proofs.selection.select_each.Given as goal

abbrev pub invariant-loop-row : goal.invariant-loop-row
invariant-loop-row l = record {
  few : l.from + l.count ≤ l.row;
  same : length l.rows ≡ length l.initial.rows;
  selected : take l.count l.rows ≡ filter (compares_at l.op l.column l.value) (numbers_from l.from l.row);
}
