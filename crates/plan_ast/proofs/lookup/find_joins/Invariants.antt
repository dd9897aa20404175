use Rattle.std.proofs.Common.{◌<◌, take, length, All}
use Rattle.plan_ast.specs.Names.{join_tables}
use Rattle.plan_ast.specs.Places.{AddsTables, AreJoinsAt, sides_at}
use Rattle.plan_ast.proofs.lookup.find_joins.Given as goal

abbrev pub invariant-loop-join : goal.invariant-loop-join
invariant-loop-join l = record {
  within : All (λ side. side < length l.tables) l.sides.items;
  sides : AddsTables l.tables (join_tables (take l.join-index l.joins)) l.initial.sides.items l.sides.items;
  found : AreJoinsAt l.tables (sides_at l.tables l.initial.sides.items) (take l.join-index l.joins) l.found.items;
}
