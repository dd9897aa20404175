use Rattle.std.proofs.Common.{◌≡◌, ℕ, pos, ◌<◌, ◌≤◌, length, slice_index_or, w64, FitsSigned}
use Rattle.build_sides.specs.Columns.{FoldsValue}
use Rattle.build_sides.specs.FoldedRows.{values_by}
use Rattle.build_sides.specs.declared.columns.Column.{Column}
use Rattle.build_sides.proofs.group_side.fold_table_row.Given as goal

abbrev pub invariant-loop-place : goal.invariant-loop-place
invariant-loop-place l = record {
  count : length l.columns.items ≡ length l.fn.columns.items;
  done : (k : ℕ) (d : Column) → k < l.place
      → FoldsValue l.number (slice_index_or (values_by l.table l.aggs l.row) k (pos 0)) (slice_index_or l.fn.columns.items k d)
      (slice_index_or l.columns.items k d);
  rest : (k : ℕ) (d : Column) → l.place ≤ k → slice_index_or l.columns.items k d ≡ slice_index_or l.fn.columns.items k d;
  fits : (k : ℕ) → k < l.place → FitsSigned w64 (slice_index_or (values_by l.table l.aggs l.row) k (pos 0));
}
