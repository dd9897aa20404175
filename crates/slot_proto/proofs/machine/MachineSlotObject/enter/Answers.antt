use Rattle.std.proofs.Common.{refl}
use Rattle.slot_history.specs.Calls.{Entering}
use Rattle.slot_proto.proofs.Machines.{is-step}
use Rattle.slot_proto.proofs.machine.MachineSlotObject.enter.Goals as goal

pub step-requires : goal.step-requires
step-requires c = (Entering c.args.s, is-step c.requires refl c.at_word.ensures.word refl)
