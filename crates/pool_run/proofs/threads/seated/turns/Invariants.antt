use Rattle.std.proofs.Common.{◌≡◌, true}
use Rattle.worker_machine.specs.Left.{is_ready}
use Rattle.pool_run.specs.Seated.{IsUnderWay}
use Rattle.pool_run.proofs.threads.seated.turns.Given as goal

abbrev pub invariant-loop : goal.invariant-loop
invariant-loop g l = record {
  can_next : (goal.iterator-loop g).can_next l.iterator';
  finite : (goal.iterator-loop g).is_finite l.iterator';
  stands : IsUnderWay g.M.Meter.may_take l.seat.board.now l.worker l.seat.pass;
  ready : is_ready l.worker.phase ≡ true;
  board : l.seat.board.now ≡ l.initial.seat.board.now;
  pass : l.seat.pass.worker ≡ l.initial.seat.pass.worker;
}
