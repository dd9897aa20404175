use Rattle.std.proofs.Common.{◌≡◌, ℕ, ◌<◌, ◌≤◌, length, slice_index_or}
use Rattle.build_sides.specs.Columns.{AddsTotal}
use Rattle.build_sides.specs.declared.columns.Column.{Column}
use Rattle.build_sides.proofs.group_side.add_totals.Given as goal

abbrev pub invariant-loop-place : goal.invariant-loop-place
invariant-loop-place l = record {
  count : length l.columns.items ≡ length l.fn.columns.items;
  done : (k : ℕ) (d : Column) → k < l.place
      → AddsTotal l.number l.from (slice_index_or l.others k d) (slice_index_or l.fn.columns.items k d) (slice_index_or l.columns.items k d);
  rest : (k : ℕ) (d : Column) → l.place ≤ k → slice_index_or l.columns.items k d ≡ slice_index_or l.fn.columns.items k d;
}
