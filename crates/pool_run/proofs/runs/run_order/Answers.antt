use Rattle.std.proofs.Common.{subst}
use Rattle.std.specs.Arc.{arc_value}
use Rattle.pool_run.specs.Runs.{AreWorkersOf}
use Rattle.pool_run.specs.Stints.{course_by}
use Rattle.pool_run.proofs.Whole.{ok-map, same-order}
use Rattle.pool_run.proofs.Works.{of-workers, ran-as-asked, table-works}
use Rattle.pool_run.proofs.runs.run_order.Goals as goal

pub run_counted-requires-clause-work : goal.run_counted-requires-clause-work
run_counted-requires-clause-work g c =
    table-works (arc_value c.args.plan) c.args.workers c.args.slots (course_by c.args.stint c.args.order.now) c.in_ok-pool.ensures.table c.requires.may

pub run_counted-requires-clause-order : goal.run_counted-requires-clause-order
run_counted-requires-clause-order g c =
    subst (AreWorkersOf c.in_ok-pool.pool.table.shape) (same-order c.args.stint c.args.order.now)
    (of-workers (arc_value c.args.plan) c.args.workers c.args.slots (course_by c.args.stint c.args.order.now) c.in_ok-pool.ensures.table c.requires.may)

pub returns : goal.returns
returns g c = ok-map c.run_counted.result
    (λ ran. ran-as-asked (arc_value c.args.plan) c.args.workers c.args.slots (course_by c.args.stint c.args.order.now) c.in_ok-pool.ensures.table
    c.requires.may) c.run_counted.ensures
