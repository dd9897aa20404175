use Rattle.std.proofs.Common.{◌≡◌, ◌+◌, ◌-◌, ◌^◌, ◌<◌, ◌≤◌, List, ◌++◌, length, map, slice_index, take}
use Rattle.build_sides.specs.FoldedRows.{FoldedRow, folded_at, key_by}
use Rattle.build_sides.specs.GroupSides.{Folds, funcs_of}
use Rattle.build_sides.specs.Numbered.{IsAbsent}
use Rattle.build_sides.proofs.group_side.GroupSide.fold_rows.Given as goal

abbrev pub invariant-loop-done : goal.invariant-loop-done
invariant-loop-done l = record {
  few : l.done ≤ length l.rows;
  room : length l.rows ≤ length l.numbers;
  funcs : funcs_of l.self ≡ funcs_of l.fn.self;
  absent : l.done < length l.rows → IsAbsent l.self.keys (key_by l.table l.by (slice_index l.rows l.done));
  folds : (before : List FoldedRow) → length before + l.done ≤ 2 ^ 62 → Folds before l.fn.self
      → Folds (before ++ map (folded_at l.table l.by l.aggs) (take l.done l.rows)) l.self;
}

abbrev pub decreases-loop-done : goal.decreases-loop-done
decreases-loop-done l = length l.rows - l.done
