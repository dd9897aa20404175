use Rattle.std.proofs.Common.{◌+◌, ◌≤◌}
use Rattle.worker_machine.specs.Desks.{Stays}
use Rattle.worker_machine.specs.Following.{FollowsAt}
use Rattle.worker_machine.specs.Keeps.{standing}
use Rattle.worker_machine.specs.Left.{left}
use Rattle.worker_machine.specs.Turning.{Goes}
use Rattle.worker_machine.proofs.state.Worker.turn.Given as goal

abbrev pub invariant-loop-turn : goal.invariant-loop-turn
invariant-loop-turn g l =
    record {
      follows : FollowsAt l.self.core (g.S.Station.seen l.station) l.phase;
      stays : Stays (g.S.Station.seen l.initial.station) (g.S.Station.seen l.station);
      ticks : l.steps + left (g.S.Station.seen l.initial.station).desk l.phase ≤ l.initial.steps + left
          (g.S.Station.seen l.initial.station).desk l.initial.phase;
      goes : Goes g.M.Meter.may_take (standing l.initial.self.core l.initial.phase (g.S.Station.seen l.initial.station))
          (standing l.self.core l.phase (g.S.Station.seen l.station));
    }

abbrev pub decreases-loop-turn : goal.decreases-loop-turn
decreases-loop-turn g l = left (g.S.Station.seen l.station).desk l.phase
