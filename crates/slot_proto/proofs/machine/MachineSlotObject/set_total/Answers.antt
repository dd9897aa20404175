use Rattle.std.proofs.Common.{refl, ap, ◌∙◌}
use Rattle.slot_history.specs.Calls.{SettingTotal}
use Rattle.slot_history.specs.States.{slot_of}
use Rattle.slot_words.specs.declared.address.Address.TheVariants.{CursorOf}
use Rattle.slot_proto.proofs.Machines.{is-step}
use Rattle.slot_proto.proofs.machine.MachineSlotObject.set_total.Goals as goal

pub step-requires : goal.step-requires
step-requires c =
    let on = ap CursorOf (c.slot_at.ensures ∙ ap slot_of c.worker_place.ensures.place) in
    (SettingTotal c.args.total, is-step c.requires on c.cursor_word.ensures.word refl)
