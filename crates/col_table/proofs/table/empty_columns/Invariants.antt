use Rattle.std.proofs.Common.{◌≡◌, [], All, length}
use Rattle.col_table.proofs.table.empty_columns.Given as goal

abbrev pub invariant-loop : goal.invariant-loop
invariant-loop l = (length l.columns.items ≡ l.counter) × All (λ column. column.items ≡ []) l.columns.items
