use Rattle.std.proofs.Common.{◌≡◌, All, map, take}
use Rattle.plan_ast.specs.Checks.{IsCheckedFor, query_of}
use Rattle.sched_tool.specs.Subjects.{AllAnswerable}
use Rattle.sched_tool.proofs.program.subject.check_queries.Given as goal

abbrev pub invariant-loop-number : goal.invariant-loop-number
invariant-loop-number l = record {
  same : map query_of l.all.items ≡ take l.number l.queries;
  placed : All (IsCheckedFor l.tables) l.all.items;
  answerable : AllAnswerable l.tables (take l.number l.queries);
}
