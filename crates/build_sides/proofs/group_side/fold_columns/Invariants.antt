use Rattle.std.proofs.Common.{◌≡◌, ℕ, ◌<◌, ◌≤◌, length, slice_index, slice_index_or, w64, FitsSigned}
use Rattle.build_sides.specs.Columns.{FoldsValues}
use Rattle.build_sides.specs.FoldedRows.{column_in, folded_value}
use Rattle.build_sides.specs.declared.columns.Column.{Column}
use Rattle.build_sides.proofs.group_side.fold_columns.Given as goal

abbrev pub invariant-loop-place : goal.invariant-loop-place
invariant-loop-place l = record {
  count : length l.columns.items ≡ length l.fn.columns.items;
  done : (a : ℕ) (d : Column) → a < l.place
      → FoldsValues l.numbers (λ k. folded_value l.table (slice_index l.rows k) (column_in l.aggs a)) (slice_index_or l.fn.columns.items a d)
      (slice_index_or l.columns.items a d);
  rest : (a : ℕ) (d : Column) → l.place ≤ a → slice_index_or l.columns.items a d ≡ slice_index_or l.fn.columns.items a d;
  fits : (a : ℕ) → a < l.place → (k : ℕ) → k < length l.rows → FitsSigned w64 (folded_value l.table (slice_index l.rows k) (column_in l.aggs a));
}
