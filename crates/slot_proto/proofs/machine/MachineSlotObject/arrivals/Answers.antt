use Rattle.std.proofs.Common.{refl, ap, ◌∙◌}
use Rattle.slot_history.specs.Calls.{AskingArrivals}
use Rattle.slot_history.specs.declared.act.Act.TheVariants.{Arrivals}
use Rattle.slot_proto.proofs.Machines.{is-step}
use Rattle.slot_proto.proofs.machine.MachineSlotObject.arrivals.Goals as goal

pub number-admitted-requires : goal.number-admitted-requires
number-admitted-requires c = (AskingArrivals, record { may = c.requires; on = refl }, λ n small. small)

pub step-requires : goal.step-requires
step-requires c = (AskingArrivals, is-step c.requires refl (c.from-same.ensures ∙ c.number-admitted.ensures) (ap Arrivals c.number-admitted.ensures))
