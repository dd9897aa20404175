use Rattle.one_thread.proofs.Seated.{seat, table-after, seat-makes}
use Rattle.one_thread.proofs.seat.OneSeatStation.finished.Goals as goal

pub invariant_of-table : goal.invariant_of-table
invariant_of-table g c = table-after (seat c.args.self.now c.table.inside c.table.view_is c.table.invariant) c.finished.ensures tt

pub returns-clause-made : goal.returns-clause-made
returns-clause-made g c = seat-makes (seat c.args.self.now c.table.inside c.table.view_is c.table.invariant) c.finished.ensures tt
