use Rattle.std.proofs.Common.{◌≤◌, ap, arith, subst, sym}
use Rattle.std.specs.Arc.{arc_value}
use Rattle.bench_cell.specs.Plans.{subject_of_plan}
use Rattle.pool_run.specs.Runs.{order_of, RanBy, threads}
use Rattle.sched_tool.specs.Requests.{course_of, IsOrder}
use Rattle.sched_tool.specs.Runs.{asked_over}
use Rattle.sched_tool.proofs.RunLemmas.{if-ok, may_run, ran-of}
use Rattle.sched_tool.proofs.program.threads.run_plan.Goals as goal

pub run_threads-requires-clause-may : goal.run_threads-requires-clause-may
run_threads-requires-clause-may g c κs within =
    let plan = arc_value c.args.plan in
    let request = c.args.request.now in
    let runnable = c.requires.runnable in
    let order = subst (λ course. IsOrder request.workers (order_of course)) (ap course_of c.requires.by_threads) runnable.order in
    may_run plan request.workers request.slots threads runnable.workers runnable.slots order c.requires.in_time

pub run_threads-requires-clause-meters : goal.run_threads-requires-clause-meters
run_threads-requires-clause-meters g c = omega (arith, c.requires.meters, c.requires.runnable.workers.1)

pub returns-clause-ran : goal.returns-clause-ran
returns-clause-ran g c =
    let times = g.M.Meter.may_take in
    let plan = arc_value c.args.plan in
    let request = c.args.request.now in
    if-ok c.run_threads.result
    (λ left ran. subst
    (λ course. RanBy times (asked_over (subject_of_plan plan) request.workers request.slots course) left.report left.joined.history left.times.items)
    (sym (ap course_of c.requires.by_threads))
    (ran-of plan request.workers request.slots threads ran))
    c.run_threads.ensures.ran
