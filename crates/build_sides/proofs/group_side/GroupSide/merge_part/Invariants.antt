use Rattle.std.proofs.Common.{◌≡◌, ℕ, ◌+◌, ◌^◌, ◌≤◌, List, ◌++◌, drop, length}
use Rattle.build_sides.specs.Chains.{key_at}
use Rattle.build_sides.specs.FoldedRows.{FoldedRow}
use Rattle.build_sides.specs.GroupSides.{Folds, funcs_of, key_part}
use Rattle.build_sides.proofs.Merging.{gathered}
use Rattle.build_sides.proofs.group_side.GroupSide.merge_part.Given as goal

abbrev pub invariant-loop-at : goal.invariant-loop-at
invariant-loop-at l = record {
  bound : l.at ≤ length l.other.keys;
  part : (e : ℕ) → l.at ≡ e + 1 → key_part (key_at l.other.keys e) ≡ l.part;
  funcs : funcs_of l.self ≡ funcs_of l.fn.self;
  folds : (rows others : List FoldedRow) → length rows + length others ≤ 2 ^ 62 → Folds rows l.fn.self → Folds others l.other
      → Folds (rows ++ gathered l.part (drop l.at l.other.keys) others) l.self;
}

abbrev pub decreases-loop-at : goal.decreases-loop-at
decreases-loop-at l = l.at
