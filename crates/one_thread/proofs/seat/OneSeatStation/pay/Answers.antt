use Rattle.slot_station.specs.Tokens.{PayGives}
use Rattle.slot_history.specs.Calls.{Paying}
use Rattle.one_thread.proofs.Seated.{seat, may-make, pays, keeps, brought, makes}
use Rattle.one_thread.proofs.seat.OneSeatStation.pay.Goals as goal

pub invariant_of-table : goal.invariant_of-table
invariant_of-table g c = keeps (seat c.args.self.now c.table.inside c.table.view_is c.table.invariant) c.pay.ensures.made (pays c.pay.result)

pub pay-requires : goal.pay-requires
pay-requires g c = may-make (seat c.args.self.now c.table.inside c.table.view_is c.table.invariant) Paying
    (c.args._debt.slot, c.args._debt.id, c.requires.debt.place)

pub returns-clause-made : goal.returns-clause-made
returns-clause-made g c = makes (seat c.args.self.now c.table.inside c.table.view_is c.table.invariant) c.pay.ensures.made (pays c.pay.result)

pub returns-clause-holder : goal.returns-clause-holder
returns-clause-holder g c = brought (seat c.args.self.now c.table.inside c.table.view_is c.table.invariant) c.pay.ensures.made
    (λ d p. PayGives d c.args.self.now.worker p c.pay.result) c.pay.ensures.holder
