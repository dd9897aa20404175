use Rattle.slot_station.specs.Tokens.{LeaveGives}
use Rattle.slot_station.proofs.Follows.{owes-task_set, coordinator-left}
use Rattle.slot_history.specs.Calls.{Leaving}
use Rattle.one_thread.proofs.Seated.{seat, may-make, leave-allows, table-after, brought, seat-makes}
use Rattle.one_thread.proofs.seat.OneSeatStation.leave.Goals as goal

pub invariant_of-table : goal.invariant_of-table
invariant_of-table g c =
    let x = seat c.args.self.now c.table.inside c.table.view_is c.table.invariant in
    table-after x c.leave.ensures.made (leave-allows x c.leave.result c.requires.cell)

pub leave-requires : goal.leave-requires
leave-requires g c = may-make (seat c.args.self.now c.table.inside c.table.view_is c.table.invariant) Leaving
    c.requires.place

pub returns-clause-made : goal.returns-clause-made
returns-clause-made g c =
    let x = seat c.args.self.now c.table.inside c.table.view_is c.table.invariant in
    seat-makes x c.leave.ensures.made (leave-allows x c.leave.result c.requires.cell)

pub returns-clause-debt : goal.returns-clause-debt
returns-clause-debt g c = brought (seat c.args.self.now c.table.inside c.table.view_is c.table.invariant) c.leave.ensures.made
    (λ d p. LeaveGives d c.args.self.now.worker p c.leave.result) c.leave.ensures.debt

pub returns-clause-task_set : goal.returns-clause-task_set
returns-clause-task_set g c = owes-task_set c.leave.result (returns-clause-made g c)

pub returns-clause-coordinator : goal.returns-clause-coordinator
returns-clause-coordinator g c = coordinator-left c.leave.result (returns-clause-made g c)
