use Rattle.std.proofs.Common.{◌≡◌, map, take}
use Rattle.plan_ast.specs.Checks.{query_of}
use Rattle.sched_tool.specs.CheckCommand.{replies_of}
use Rattle.sched_tool.proofs.program.check.answer_queries.Given as goal

abbrev pub invariant-loop-query : goal.invariant-loop-query
invariant-loop-query l = l.replies.items ≡ replies_of (record { tables = l.tables; queries = map query_of (take l.query l.fn.checked) })
