use Rattle.std.proofs.Common.{rules, ap₂, subst}
use Rattle.worker_machine.specs.Keeps.{Moves}
use Rattle.worker_machine.specs.Left.{IsNearer}
use Rattle.one_thread.specs.Seats.{SeatOrigin, desk_over}
use Rattle.bench_cell.specs.declared.plan.Plan.{Plan}
use Rattle.pool_run.proofs.SeatViews.{follows-seat, follows-table, both-same, over-before, over-after}
use Rattle.pool_run.proofs.seats.one_step.Goals as goal

pub step-requires : goal.step-requires
step-requires g c =
    let s = c.seat-seat.ensures in
    record { follows = follows-seat (over-before c.args.table.now c.args.who s.start s.worker s.table) c.args.worker.now c.requires.follows }

pub returns-clause-follows : goal.returns-clause-follows
returns-clause-follows g c =
    let s = c.seat-seat.ensures in
    let was = c.seat-seat.result in
    let n = c.step.new.station in
    follows-table
    (over-after {table = c.table-1.given.0} was.start.value was.worker c.args.who (search rules) n.shape n.subject c.step.ensures.stays.desk s.worker)
    c.step.new.self c.step.ensures.follows

pub returns-clause-moves : goal.returns-clause-moves
returns-clause-moves g c =
    let s = c.seat-seat.ensures in
    let was = c.seat-seat.result in
    let n = c.step.new.station in
    let before : SeatOrigin Plan = record { name = was.table.ghost_name; start = was.start.value; worker = was.worker } in
    let after : SeatOrigin Plan = record { name = n.table.ghost_name; start = n.start.value; worker = n.worker } in
    both-same (Moves g.M.Meter.may_take) c.args.worker.now c.step.new.self
    (over-before {origin = before} {now = was.table.now} c.args.table.now c.args.who s.start s.worker s.table)
    (over-after {origin = after} {now = n.table.now} {table = c.table-1.given.0} was.start.value was.worker c.args.who (search rules)
    n.shape n.subject c.step.ensures.stays.desk s.worker)
    c.step.ensures.moves

pub returns-clause-nearer : goal.returns-clause-nearer
returns-clause-nearer g c =
    let s = c.seat-seat.ensures in
    subst (λ D. IsNearer D c.args.worker.now.phase c.step.new.self.phase) (ap₂ desk_over s.start s.worker) c.step.ensures.nearer
