use Rattle.std.proofs.Common.{take}
use Rattle.plan_ast.specs.Places.{AreFound, sides_at, agg_at}
use Rattle.plan_ast.proofs.lookup.find_aggs.Given as goal

abbrev pub invariant-loop-agg : goal.invariant-loop-agg
invariant-loop-agg l = AreFound (agg_at (sides_at l.tables l.sides)) (take l.agg-index l.aggs) l.found.items
