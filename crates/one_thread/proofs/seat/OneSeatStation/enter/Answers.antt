use Rattle.slot_history.specs.Calls.{Entering}
use Rattle.one_thread.proofs.Seated.{seat, may-make, table-after, seat-makes}
use Rattle.one_thread.proofs.seat.OneSeatStation.enter.Goals as goal

pub enter-requires : goal.enter-requires
enter-requires g c = may-make (seat c.args.self.now c.table.inside c.table.view_is c.table.invariant) (Entering c.args.s)
    (c.requires.place, c.requires.slot)

pub invariant_of-table : goal.invariant_of-table
invariant_of-table g c = table-after (seat c.args.self.now c.table.inside c.table.view_is c.table.invariant) c.enter.ensures tt

pub returns-clause-made : goal.returns-clause-made
returns-clause-made g c = seat-makes (seat c.args.self.now c.table.inside c.table.view_is c.table.invariant) c.enter.ensures tt
