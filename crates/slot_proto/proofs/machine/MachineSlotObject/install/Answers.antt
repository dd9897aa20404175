use Rattle.std.proofs.Common.{refl, ap, ◌∙◌}
use Rattle.slot_history.specs.Calls.{Installing}
use Rattle.slot_history.specs.States.{slot_of}
use Rattle.slot_words.specs.declared.address.Address.TheVariants.{StateOf}
use Rattle.slot_proto.proofs.Machines.{is-step}
use Rattle.slot_proto.proofs.machine.MachineSlotObject.install.Goals as goal

pub step-requires : goal.step-requires
step-requires c =
    let on = ap StateOf (c.slot_at.ensures ∙ ap slot_of c.worker_place-place.ensures.place) in
    (Installing c.args.id, is-step c.requires on c.open_word.ensures.word refl)
