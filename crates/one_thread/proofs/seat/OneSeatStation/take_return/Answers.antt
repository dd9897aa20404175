use Rattle.slot_station.proofs.Follows.{returns-named}
use Rattle.one_thread.proofs.Seated.{seat, table-after, seat-makes}
use Rattle.one_thread.proofs.seat.OneSeatStation.take_return.Goals as goal

pub returns-clause-made : goal.returns-clause-made
returns-clause-made g c = seat-makes (seat c.args.self.now c.table.inside c.table.view_is c.table.invariant) c.take_return.ensures tt

pub returns-clause-slots : goal.returns-clause-slots
returns-clause-slots g c = returns-named (returns-clause-made g c)

pub invariant_of-table : goal.invariant_of-table
invariant_of-table g c = table-after (seat c.args.self.now c.table.inside c.table.view_is c.table.invariant) c.take_return.ensures tt
