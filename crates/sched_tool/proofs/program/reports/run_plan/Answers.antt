use Rattle.std.proofs.Common.{◌≡◌, ap, subst, sym}
use Rattle.std.specs.Arc.{arc_value}
use Rattle.bench_cell.specs.Plans.{subject_of_plan}
use Rattle.pool_run.specs.Runs.{asked_of, MayRun, moves, order_of, ReportsBy, turns}
use Rattle.sched_tool.specs.Requests.{course_of, IsOrder}
use Rattle.sched_tool.specs.Runs.{asked_over}
use Rattle.sched_tool.proofs.RunLemmas.{may_run, reports-of}
use Rattle.sched_tool.proofs.program.reports.run_plan.Goals as goal

pub run_turns-requires : goal.run_turns-requires
run_turns-requires g c =
    let plan = arc_value c.args.plan in
    let request = c.args.request.now in
    let runnable = c.requires.runnable in
    let within = subst (λ course. IsOrder request.workers (order_of course)) (ap course_of c.in-Turns.is) runnable.order in
    subst (λ order. MayRun (asked_of plan request.workers request.slots (turns order))) (sym c.as_slice.ensures.value)
    (may_run plan request.workers request.slots (turns c.in-Turns.order.items) runnable.workers runnable.slots within c.requires.in_time)

pub run_steps-requires : goal.run_steps-requires
run_steps-requires g c =
    let plan = arc_value c.args.plan in
    let request = c.args.request.now in
    let runnable = c.requires.runnable in
    let within = subst (λ course. IsOrder request.workers (order_of course)) (ap course_of c.in-Steps.is) runnable.order in
    subst (λ order. MayRun (asked_of plan request.workers request.slots (moves order))) (sym c.as_slice-in-Steps.ensures.value)
    (may_run plan request.workers request.slots (moves c.in-Steps.order.items) runnable.workers runnable.slots within c.requires.in_time)

pub returns-in_ok-run_turns-in-Turns : goal.returns-in_ok-run_turns-in-Turns
returns-in_ok-run_turns-in-Turns g c =
    let times = g.M.Meter.may_take in
    let plan = arc_value c.args.plan in
    let request = c.args.request.now in
    let ran = c.in_ok-run_turns-in-Turns in
    let left = subst (λ order. ReportsBy times (asked_of plan request.workers request.slots (turns order)) ran.field-0.report) c.as_slice.ensures.value
    ran.ensures.reports in
    subst (λ course. ReportsBy times (asked_over (subject_of_plan plan) request.workers request.slots course) ran.field-0.report)
    (sym (ap course_of c.in-Turns.is))
    (reports-of plan request.workers request.slots (turns c.in-Turns.order.items) left)

pub returns-in_ok-run_steps-in-Steps : goal.returns-in_ok-run_steps-in-Steps
returns-in_ok-run_steps-in-Steps g c =
    let times = g.M.Meter.may_take in
    let plan = arc_value c.args.plan in
    let request = c.args.request.now in
    let ran = c.in_ok-run_steps-in-Steps in
    let left = subst (λ order. ReportsBy times (asked_of plan request.workers request.slots (moves order)) ran.field-0.report)
    c.as_slice-in-Steps.ensures.value ran.ensures.reports in
    subst (λ course. ReportsBy times (asked_over (subject_of_plan plan) request.workers request.slots course) ran.field-0.report)
    (sym (ap course_of c.in-Steps.is))
    (reports-of plan request.workers request.slots (moves c.in-Steps.order.items) left)
