use Rattle.plain_slots.proofs.Moving.{may-enter}
use Rattle.plain_slots.proofs.object.PlainObjectSlotObject.enter.Goals as goal

pub go_on-requires : goal.go_on-requires
go_on-requires c = may-enter _ c.args.worker c.args.s c.requires
