use Rattle.std.proofs.Common.{◌≡◌, All, None, length}
use Rattle.one_thread.proofs.table.empty_cells.Given as goal

abbrev pub invariant-loop : goal.invariant-loop
invariant-loop g l = record {
  count : length l.cells.items ≡ l.counter;
  none : All (λ x. x ≡ None) l.cells.items;
}
