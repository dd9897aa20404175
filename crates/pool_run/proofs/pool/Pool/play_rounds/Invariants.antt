use Rattle.pool_run.specs.Plays.{Leads, some_rounds}
use Rattle.pool_run.specs.Scenes.{scene, Between}
use Rattle.pool_run.proofs.Lowering.{left_at}
use Rattle.pool_run.proofs.pool.Pool.play_rounds.Given as goal

abbrev pub invariant-rounds : goal.invariant-rounds
invariant-rounds g l = record {
  between : Between g.M.Meter.may_take (scene l.self.table l.self.team.items);
  plays : Leads g.M.Meter.may_take some_rounds (scene l.initial.self.table l.initial.self.team.items) (scene l.self.table l.self.team.items);
}

abbrev pub decreases-rounds : goal.decreases-rounds
decreases-rounds g l = left_at l.self.table l.self.team.items
