use Rattle.std.proofs.Common.{◌≡◌, Some, subst}
use Rattle.bench_cell.specs.Plans.{total_of}
use Rattle.worker_machine.proofs.Tasks.{by-parts, stage-below, task-query}
use Rattle.worker_machine.proofs.plans.task_total.Goals as goal

pub total-requires-clause-query : goal.total-requires-clause-query
total-requires-clause-query c = task-query c.args.plan.now c.args.id c.requires

pub total-requires-clause-stage : goal.total-requires-clause-stage
total-requires-clause-stage c = stage-below c.args.plan.now c.args.id c.requires

pub returns-clause-total : goal.returns-clause-total
returns-clause-total c = subst (λ i. total_of c.args.plan.now i ≡ Some c.total.result) (by-parts c.args.id) c.total.ensures.total
