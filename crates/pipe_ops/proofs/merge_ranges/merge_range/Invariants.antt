use Rattle.std.proofs.Common.{◌≡◌, ◌^◌, ◌≤◌, List, ◌++◌, flat_map, length}
use Rattle.std.specs.List.{AllZip}
use Rattle.plan_ast.specs.Folds.{range_of}
use Rattle.build_sides.specs.FoldedRows.{FoldedRow}
use Rattle.build_sides.specs.GroupSides.{Folds, funcs_of}
use Rattle.pipe_ops.specs.Merging.{rows_among}
use Rattle.pipe_ops.proofs.merge_ranges.merge_range.Given as goal

abbrev pub invariant-loop-part : goal.invariant-loop-part
invariant-loop-part l = record {
  funcs : funcs_of l.side ≡ funcs_of l.initial.side;
  folds : (rows : List FoldedRow) (lists : List (List FoldedRow)) → AllZip Folds lists l.parts → length (flat_map (λ list. list) lists) ≤ 2 ^ 60
      → length rows ≤ 2 ^ 60 → Folds rows l.initial.side
      → Folds (rows ++ rows_among (range_of l.from l.part) (flat_map (λ list. list) lists)) l.side;
}
