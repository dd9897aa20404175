use Rattle.std.proofs.Common.{refl, ap, ◌∙◌}
use Rattle.slot_history.specs.Calls.{Releasing}
use Rattle.slot_history.specs.States.{slot_of}
use Rattle.slot_words.specs.declared.address.Address.TheVariants.{StateOf}
use Rattle.slot_proto.proofs.Machines.{is-step}
use Rattle.slot_proto.proofs.machine.MachineSlotObject.release.Goals as goal

pub step-requires : goal.step-requires
step-requires c = (Releasing, is-step c.requires (ap StateOf (c.slot_at.ensures ∙ ap slot_of c.worker_place.ensures.place)) refl refl)
