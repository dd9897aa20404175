use Rattle.std.proofs.Common.{◌≡◌, ◌<◌, ◌++◌, map}
use Rattle.plan_ast.specs.Folds.{numbers_below}
use Rattle.build_sides.specs.Numbered.{AreDistinct}
use Rattle.pipe_ops.specs.Merging.{group_at}
use Rattle.pipe_ops.proofs.merged_groups.add_groups.Given as goal

abbrev pub invariant-loop-number : goal.invariant-loop-number
invariant-loop-number l = record {
  groups : l.groups.items ≡ l.fn.groups.items ++ map (group_at l.width l.side) (numbers_below l.number);
  distinct : 0 < l.number → AreDistinct l.side.keys;
}
