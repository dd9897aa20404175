use Rattle.std.proofs.Common.{◌≡◌, false}
use Rattle.one_thread.specs.Seats.{desk_over}
use Rattle.worker_machine.specs.Left.{is_ready, left}
use Rattle.pool_run.specs.Scenes.{FollowsIn}
use Rattle.pool_run.proofs.Resting.{OnTheWay}
use Rattle.pool_run.proofs.seats.rest_of_turn.Given as goal

abbrev pub invariant-rest : goal.invariant-rest
invariant-rest g l = record {
  follows : FollowsIn l.table l.who l.worker;
  under_way : is_ready l.worker.phase ≡ false;
  on_the_way : OnTheWay g.M.Meter.may_take l.initial.table l.table l.who l.initial.worker l.worker;
}

abbrev pub decreases-rest : goal.decreases-rest
decreases-rest g l = left (desk_over l.initial.table l.who) l.worker.phase
