use Rattle.std.proofs.Common.{◌≡◌, ◌^◌, ◌≤◌, List, ◌++◌, flat_map, length, take}
use Rattle.std.specs.List.{AllZip}
use Rattle.build_sides.specs.FoldedRows.{FoldedRow}
use Rattle.build_sides.specs.GroupSides.{Folds, funcs_of, rows_in}
use Rattle.pipe_ops.proofs.merge_ranges.add_part.Given as goal

abbrev pub invariant-loop-other : goal.invariant-loop-other
invariant-loop-other l = record {
  funcs : funcs_of l.side ≡ funcs_of l.initial.side;
  folds : (rows : List FoldedRow) (lists : List (List FoldedRow)) → AllZip Folds lists l.parts → length (flat_map (λ list. list) lists) ≤ 2 ^ 60
      → length rows ≤ 2 ^ 61 → Folds rows l.initial.side → Folds (rows ++ rows_in l.part (flat_map (λ list. list) (take l.other-index lists))) l.side;
}
