use Rattle.std.proofs.Common.{take}
use Rattle.plan_ast.specs.Places.{AreFound, sides_at, column_at}
use Rattle.plan_ast.proofs.lookup.find_refs.Given as goal

abbrev pub invariant-loop-reference : goal.invariant-loop-reference
invariant-loop-reference l = AreFound (column_at (sides_at l.tables l.sides)) (take l.reference-index l.references) l.found.items
