use Rattle.std.proofs.Common.{◌≡◌, ◌≤◌, drop, filter, length, take}
use Rattle.pipe_ops.specs.Selection.{compares_at}
use Rattle.pipe_ops.proofs.selection.thin_each.Given as goal

abbrev pub invariant-loop-place : goal.invariant-loop-place
invariant-loop-place l = record {
  few : l.kept ≤ l.place;
  same : length l.rows ≡ length l.initial.rows;
  rest : drop l.place l.rows ≡ drop l.place l.initial.rows;
  selected : take l.kept l.rows ≡ filter (compares_at l.op l.column l.value) (take l.place l.initial.rows);
}
