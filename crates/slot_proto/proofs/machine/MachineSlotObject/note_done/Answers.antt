use Rattle.std.proofs.Common.{refl, ap₂}
use Rattle.slot_history.specs.Calls.{NotingDone}
use Rattle.slot_words.specs.Steps.{added}
use Rattle.slot_proto.proofs.Machines.{is-step}
use Rattle.slot_proto.proofs.machine.MachineSlotObject.note_done.Goals as goal

pub found-found-requires : goal.found-found-requires
found-found-requires c = (NotingDone c.args.k, record { may = c.requires; on = refl })

pub step-requires : goal.step-requires
step-requires c = (NotingDone c.args.k, is-step c.requires refl (ap₂ added c.from.ensures c.found-found.ensures.word) refl)
