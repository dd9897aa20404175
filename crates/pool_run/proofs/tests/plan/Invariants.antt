use Rattle.std.proofs.Common.{◌≡◌, All}
use Rattle.std.specs.Arc.{arc_value}
use Rattle.plan_ast.specs.Checks.{IsCheckedFor, query_of}
use Rattle.pool_run.proofs.tests.plan.Given as goal

abbrev pub invariant-loop-query : goal.invariant-loop-query
invariant-loop-query g l = record {
  early : All (λ query. (query_of (arc_value query)).after ≡ 0) l.all.items;
  checked : All (λ query. IsCheckedFor (arc_value l.tables).items (arc_value query)) l.all.items;
}
