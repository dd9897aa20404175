use Rattle.std.proofs.Common.{◌≡◌, ◌≤◌, filter, length, take}
use Rattle.pipe_ops.specs.Placed.{passes_at, row_at}
use Rattle.pipe_ops.specs.StagePlaces.{numbers_from}
use Rattle.pipe_ops.proofs.selection.select_rows.Given as goal

abbrev pub invariant-loop-place : goal.invariant-loop-place
invariant-loop-place l = record {
  few : l.count ≤ length l.rows;
  same : length l.rows ≡ length l.initial.rows;
  selected : take l.count l.rows ≡ filter (λ row. passes_at (take l.place l.filters) (row_at l.table row)) (numbers_from l.from l.to);
}
