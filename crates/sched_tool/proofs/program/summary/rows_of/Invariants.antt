use Rattle.std.proofs.Common.{◌≡◌, ◌≤◌, ◌*◌, ◌-◌, length, take}
use Rattle.std.specs.Prelude.{sum_by}
use Rattle.plan_ast.specs.declared.queries.NamedTable.{NamedTable}
use Rattle.sched_tool.proofs.program.summary.rows_of.Given as goal

abbrev pub invariant-loop-made : goal.invariant-loop-made
invariant-loop-made l = record {
  sum : l.rows ≡ sum_by (λ (made : NamedTable). length made.table.rows) (take l.made-index l.tables);
  low : l.rows ≤ l.made-index * 1_048_576;
}
