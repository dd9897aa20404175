use Rattle.slot_station.proofs.Follows.{sees-task_set}
use Rattle.slot_history.specs.Calls.{Looking}
use Rattle.one_thread.proofs.Seated.{seat, may-make, looks, keeps, makes}
use Rattle.one_thread.proofs.seat.OneSeatStation.look.Goals as goal

pub invariant_of-table : goal.invariant_of-table
invariant_of-table g c = keeps (seat c.args.self.now c.table.inside c.table.view_is c.table.invariant) c.look.ensures (looks c.look.result)

pub returns-clause-made : goal.returns-clause-made
returns-clause-made g c = makes (seat c.args.self.now c.table.inside c.table.view_is c.table.invariant) c.look.ensures (looks c.look.result)

pub look-requires : goal.look-requires
look-requires g c = may-make (seat c.args.self.now c.table.inside c.table.view_is c.table.invariant) Looking
    c.requires.place

pub returns-clause-task_set : goal.returns-clause-task_set
returns-clause-task_set g c = sees-task_set c.look.result (returns-clause-made g c)
