use Rattle.slot_station.specs.Tokens.{ShutGives}
use Rattle.slot_history.specs.Calls.{Shutting}
use Rattle.one_thread.proofs.Seated.{seat, may-make, shuts, keeps, brought, makes}
use Rattle.one_thread.proofs.seat.OneSeatStation.shut.Goals as goal

pub invariant_of-table : goal.invariant_of-table
invariant_of-table g c = keeps (seat c.args.self.now c.table.inside c.table.view_is c.table.invariant) c.shut.ensures.made (shuts c.shut.result)

pub returns-clause-made : goal.returns-clause-made
returns-clause-made g c = makes (seat c.args.self.now c.table.inside c.table.view_is c.table.invariant) c.shut.ensures.made (shuts c.shut.result)

pub shut-requires : goal.shut-requires
shut-requires g c = may-make (seat c.args.self.now c.table.inside c.table.view_is c.table.invariant) Shutting
    (c.args._spent.slot, c.args._spent.id, c.requires.spent.place)

pub returns-clause-first : goal.returns-clause-first
returns-clause-first g c = brought (seat c.args.self.now c.table.inside c.table.view_is c.table.invariant) c.shut.ensures.made
    (λ d p. ShutGives d c.args.self.now.worker p c.shut.result) c.shut.ensures.first
