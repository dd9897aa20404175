use Rattle.std.proofs.Common.{◌≡◌, take}
use Rattle.pool_run.specs.declared.stint.Stint.TheVariants.{WholeTurn}
use Rattle.pool_run.specs.Plays.{Leads, stints_by}
use Rattle.pool_run.specs.Scenes.{scene, TeamFollows, NoneTurns}
use Rattle.pool_run.proofs.pool.Pool.play_order.Given as goal

abbrev pub invariant-loop-who : goal.invariant-loop-who
invariant-loop-who g l = record {
  follows : TeamFollows (scene l.self.table l.self.team.items);
  none : l.stint ≡ WholeTurn → NoneTurns l.self.team.items;
  plays : Leads g.M.Meter.may_take (stints_by l.stint (take l.who-index l.order)) (scene l.initial.self.table l.initial.self.team.items)
      (scene l.self.table l.self.team.items);
}
