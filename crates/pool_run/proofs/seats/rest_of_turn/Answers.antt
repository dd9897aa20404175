use Rattle.std.proofs.Common.{◌<◌, sym, subst}
use Rattle.slot_history.specs.declared.shape.Shape.{Shape}
use Rattle.slot_station.specs.Desks.{Desk}
use Rattle.bench_cell.specs.declared.plan.Plan.{Plan}
use Rattle.one_thread.specs.Seats.{desk_over}
use Rattle.worker_machine.specs.Left.{IsNearer, left}
use Rattle.pool_run.proofs.Points.{left-less, phase-end, phase-more}
use Rattle.pool_run.proofs.Resting.{ends-there, goes-further, sets-out, since-more}
use Rattle.pool_run.proofs.SeatViews.{desk-since}
use Rattle.pool_run.proofs.seats.rest_of_turn.Goals as goal

pub rest-init : goal.rest-init
rest-init g c = record {
  follows = c.requires.follows;
  under_way = c.requires.under_way;
  on_the_way = sets-out g.M.Meter.may_take c.args.table.now c.args.who c.args.worker.now;
}

pub one_step-requires : goal.one_step-requires
one_step-requires g c = record {
  who = subst (λ (d : Shape). c.args.who < d.workers) (sym c.rest.invariant.on_the_way.since.shape) c.requires.who;
  follows = c.rest.invariant.follows;
}

pub rest-preserved : goal.rest-preserved
rest-preserved g c =
    let e = c.in-More.ensures in
    let under = phase-more c.one_step.new.worker.phase e.ends in record {
      follows = e.follows;
      under_way = under;
      on_the_way = goes-further c.rest.invariant.on_the_way e.since e.moves under;
    }

pub rest-smaller : goal.rest-smaller
rest-smaller g c =
    let e = c.in-More.ensures in
    left-less (desk_over c.args.table.now c.args.who) (left (desk_over c.args.table.now c.args.who) c.rest.worker.phase) c.one_step.new.worker.phase
    (phase-more c.one_step.new.worker.phase e.ends)
    (subst (λ (D : Desk Plan). IsNearer D c.rest.worker.phase c.one_step.new.worker.phase) (desk-since c.rest.invariant.on_the_way.since c.args.who) e.nearer)

pub returns-in-End-clause-since : goal.returns-in-End-clause-since
returns-in-End-clause-since g c =
    let e = c.in-End.ensures in
    since-more c.rest.invariant.on_the_way.since e.since

pub returns-in-End-clause-rests : goal.returns-in-End-clause-rests
returns-in-End-clause-rests g c =
    let e = c.in-End.ensures in
    ends-there c.rest.invariant.on_the_way e.since e.moves
    (phase-end c.one_step.new.worker.phase c.in-End.turn e.ends)
