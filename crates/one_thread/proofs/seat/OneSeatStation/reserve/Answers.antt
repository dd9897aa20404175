use Rattle.slot_station.specs.Tokens.{ReserveGives}
use Rattle.slot_history.specs.Calls.{Reserving}
use Rattle.one_thread.proofs.Seated.{seat, may-make, reserves, keeps, brought, makes}
use Rattle.one_thread.proofs.seat.OneSeatStation.reserve.Goals as goal

pub reserve-requires : goal.reserve-requires
reserve-requires g c = may-make (seat c.args.self.now c.table.inside c.table.view_is c.table.invariant) (Reserving c.args.s)
    (c.requires.place, c.requires.slot)

pub invariant_of-table : goal.invariant_of-table
invariant_of-table g c = keeps (seat c.args.self.now c.table.inside c.table.view_is c.table.invariant)
    c.reserve.ensures.made (reserves c.args.s c.reserve.result)

pub returns-clause-made : goal.returns-clause-made
returns-clause-made g c = makes (seat c.args.self.now c.table.inside c.table.view_is c.table.invariant)
    c.reserve.ensures.made (reserves c.args.s c.reserve.result)

pub returns-clause-holder : goal.returns-clause-holder
returns-clause-holder g c = brought (seat c.args.self.now c.table.inside c.table.view_is c.table.invariant) c.reserve.ensures.made
    (λ d p. ReserveGives d c.args.self.now.worker p c.reserve.result) c.reserve.ensures.holder
