use Rattle.std.proofs.Common.{◌≡◌, ◌+◌, length, take}
use Rattle.pipe_ops.specs.StagePlaces.{numbers_from}
use Rattle.pipe_ops.proofs.selection.all_rows.Given as goal

abbrev pub invariant-loop-row : goal.invariant-loop-row
invariant-loop-row l = record {
  few : l.from + l.count ≡ l.row;
  same : length l.rows ≡ length l.initial.rows;
  selected : take l.count l.rows ≡ numbers_from l.from l.row;
}
