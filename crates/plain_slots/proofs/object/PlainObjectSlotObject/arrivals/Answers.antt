use Rattle.plain_slots.proofs.Moving.{may-count}
use Rattle.plain_slots.proofs.object.PlainObjectSlotObject.arrivals.Goals as goal

pub go_on-requires : goal.go_on-requires
go_on-requires c = may-count c.self.inside c.self.invariant _ c.self.view_is c.args.worker c.requires
