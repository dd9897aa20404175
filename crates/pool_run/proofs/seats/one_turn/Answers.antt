use Rattle.std.proofs.Common.{rules}
use Rattle.worker_machine.specs.Turning.{Turns}
use Rattle.one_thread.specs.Seats.{SeatOrigin}
use Rattle.bench_cell.specs.declared.plan.Plan.{Plan}
use Rattle.pool_run.proofs.SeatViews.{follows-seat, follows-table, both-same, over-before, over-after}
use Rattle.pool_run.proofs.seats.one_turn.Goals as goal

pub turn-requires-clause-follows : goal.turn-requires-clause-follows
turn-requires-clause-follows g c =
    let s = c.seat-seat.ensures in
    follows-seat (over-before c.args.table.now c.args.who s.start s.worker s.table) c.args.worker.now c.requires.follows

pub returns-clause-follows : goal.returns-clause-follows
returns-clause-follows g c =
    let s = c.seat-seat.ensures in
    let was = c.seat-seat.result in
    let n = c.turn.new.station in
    follows-table
    (over-after {table = c.table-1.given.0} was.start.value was.worker c.args.who (search rules) n.shape n.subject c.turn.ensures.stays.desk s.worker)
    c.turn.new.self c.turn.ensures.follows

pub returns-clause-turns : goal.returns-clause-turns
returns-clause-turns g c =
    let s = c.seat-seat.ensures in
    let was = c.seat-seat.result in
    let n = c.turn.new.station in
    let before : SeatOrigin Plan = record { name = was.table.ghost_name; start = was.start.value; worker = was.worker } in
    let after : SeatOrigin Plan = record { name = n.table.ghost_name; start = n.start.value; worker = n.worker } in
    both-same (λ from to. Turns g.M.Meter.may_take from c.turn.result to) c.args.worker.now c.turn.new.self
    (over-before {origin = before} {now = was.table.now} c.args.table.now c.args.who s.start s.worker s.table)
    (over-after {origin = after} {now = n.table.now} {table = c.table-1.given.0} was.start.value was.worker c.args.who (search rules)
    n.shape n.subject c.turn.ensures.stays.desk s.worker)
    c.turn.ensures.turns
