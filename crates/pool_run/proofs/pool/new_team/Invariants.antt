use Rattle.std.specs.Arc.{arc_value}
use Rattle.pool_run.specs.Scenes.{AreNew, new_table}
use Rattle.pool_run.proofs.pool.new_team.Given as goal

abbrev pub invariant-loop-who : goal.invariant-loop-who
invariant-loop-who l = AreNew (new_table (arc_value l.plan) l.workers l.slots) l.who l.team.items
