use Rattle.std.proofs.Common.{take}
use Rattle.plan_ast.specs.Places.{AreFound, table_at, filter_at}
use Rattle.plan_ast.proofs.lookup.find_filters.Given as goal

abbrev pub invariant-loop-filter : goal.invariant-loop-filter
invariant-loop-filter l = AreFound (filter_at (table_at l.tables l.side)) (take l.filter-index l.filters) l.found.items
