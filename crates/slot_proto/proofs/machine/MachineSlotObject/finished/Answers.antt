use Rattle.std.proofs.Common.{refl, ap, ◌∙◌}
use Rattle.slot_history.specs.Calls.{AskingFinished}
use Rattle.slot_history.specs.declared.act.Act.TheVariants.{Finished}
use Rattle.slot_proto.proofs.Machines.{is-step}
use Rattle.slot_proto.proofs.machine.MachineSlotObject.finished.Goals as goal

pub number-finished-requires : goal.number-finished-requires
number-finished-requires c = (AskingFinished, record { may = c.requires; on = refl }, λ n small. small)

pub step-requires : goal.step-requires
step-requires c = (AskingFinished, is-step c.requires refl (c.from-same.ensures ∙ c.number-finished.ensures) (ap Finished c.number-finished.ensures))
