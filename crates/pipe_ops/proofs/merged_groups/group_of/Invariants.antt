use Rattle.std.proofs.Common.{◌≡◌, map}
use Rattle.plan_ast.specs.Folds.{numbers_below}
use Rattle.build_sides.specs.GroupSides.{total_at}
use Rattle.pipe_ops.proofs.merged_groups.group_of.Given as goal

abbrev pub invariant-loop-place : goal.invariant-loop-place
invariant-loop-place l = l.totals.items ≡ map (λ place. total_at l.side place l.number) (numbers_below l.place)
