use Rattle.std.proofs.Common.{◌≡◌, ◌<◌, ◌≤◌, ◌++◌, ◌∷◌, [], ℕ, length, get_or}
use Rattle.col_table.specs.Columns.{values_of}
use Rattle.col_table.specs.NamedRows.{value_in}
use Rattle.col_table.proofs.table.push_each.Given as goal

abbrev pub invariant-loop-place : goal.invariant-loop-place
invariant-loop-place l = record {
  count : length l.columns ≡ length l.initial.columns;
  each : (k : ℕ) → k < l.place → get_or (values_of l.columns) k [] ≡ get_or (values_of l.initial.columns) k [] ++ value_in l.row k ∷ [];
  rest : (k : ℕ) → l.place ≤ k → (d : _) → get_or l.columns k d ≡ get_or l.initial.columns k d;
}
