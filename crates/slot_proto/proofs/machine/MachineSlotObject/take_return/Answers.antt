use Rattle.std.proofs.Common.{refl, ap}
use Rattle.slot_history.specs.Calls.{TakingReturn}
use Rattle.slot_history.specs.declared.act.Act.TheVariants.{TakeReturn}
use Rattle.slot_proto.proofs.Machines.{is-step}
use Rattle.slot_proto.proofs.machine.MachineSlotObject.take_return.Goals as goal

pub found-bits-requires : goal.found-bits-requires
found-bits-requires c = (TakingReturn c.args.part, record { may = c.requires; on = refl })

pub step-requires : goal.step-requires
step-requires c = (TakingReturn c.args.part, is-step c.requires refl refl (ap (TakeReturn c.args.part) c.found-bits.ensures.word))
