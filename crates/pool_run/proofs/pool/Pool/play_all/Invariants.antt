use Rattle.std.proofs.Common.{◌≡◌}
use Rattle.std.specs.List.{range_with_len}
use Rattle.pool_run.specs.declared.stint.Stint.TheVariants.{WholeTurn}
use Rattle.pool_run.specs.Plays.{Leads, stints_by}
use Rattle.pool_run.specs.Scenes.{scene, TeamFollows, NoneTurns, NoneTurnsBelow}
use Rattle.pool_run.specs.Stints.{EndsTurns}
use Rattle.pool_run.proofs.pool.Pool.play_all.Given as goal

abbrev pub invariant-loop-who : goal.invariant-loop-who
invariant-loop-who g l = record {
  follows : TeamFollows (scene l.self.table l.self.team.items);
  still : l.stint ≡ WholeTurn → NoneTurns l.self.team.items;
  none : EndsTurns l.stint → NoneTurnsBelow l.who l.self.team.items;
  plays : Leads g.M.Meter.may_take (stints_by l.stint (range_with_len 0 l.who)) (scene l.initial.self.table l.initial.self.team.items)
      (scene l.self.table l.self.team.items);
}
