use Rattle.slot_station.specs.Tokens.{SweepGives}
use Rattle.slot_history.specs.Calls.{Sweeping}
use Rattle.one_thread.proofs.Seated.{seat, may-make, sweeps, keeps, brought, makes}
use Rattle.one_thread.proofs.seat.OneSeatStation.sweep.Goals as goal

pub invariant_of-table : goal.invariant_of-table
invariant_of-table g c = keeps (seat c.args.self.now c.table.inside c.table.view_is c.table.invariant) c.sweep.ensures.made (sweeps c.sweep.result)

pub sweep-requires : goal.sweep-requires
sweep-requires g c = may-make (seat c.args.self.now c.table.inside c.table.view_is c.table.invariant) Sweeping
    (_, _, _, _, c.requires.coordinator.place, c.requires.asked)

pub returns-clause-made : goal.returns-clause-made
returns-clause-made g c = makes (seat c.args.self.now c.table.inside c.table.view_is c.table.invariant) c.sweep.ensures.made (sweeps c.sweep.result)

pub returns-clause-holder : goal.returns-clause-holder
returns-clause-holder g c = brought (seat c.args.self.now c.table.inside c.table.view_is c.table.invariant) c.sweep.ensures.made
    (λ d p. SweepGives d c.args.self.now.worker p c.sweep.result) c.sweep.ensures.holder
