use Rattle.std.proofs.Common.{◌∙◌}
use Rattle.one_thread.proofs.Seated.{seat, place-of}
use Rattle.one_thread.proofs.seat.OneSeat.place.Goals as goal

pub returns : goal.returns
returns g c = c.place.ensures ∙ place-of (seat c.args.self.now c.table.inside c.table.view_is c.table.invariant)
