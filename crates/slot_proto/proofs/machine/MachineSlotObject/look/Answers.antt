use Rattle.std.proofs.Common.{ap, ◌∙◌}
use Rattle.slot_history.specs.Calls.{Looking}
use Rattle.slot_history.specs.States.{slot_of}
use Rattle.slot_words.specs.declared.address.Address.TheVariants.{StateOf}
use Rattle.slot_words.specs.Steps.{look_answer}
use Rattle.slot_proto.specs.Machines.{IsCallOn}
use Rattle.slot_proto.proofs.Machines.{is-step}
use Rattle.slot_proto.proofs.machine.MachineSlotObject.look.Goals as goal

pub found-found-requires : goal.found-found-requires
found-found-requires c = (Looking, record { may = c.requires; on = ap StateOf (c.slot_at.ensures ∙ ap slot_of c.worker_place.ensures.place) })

pub look_read-look-requires : goal.look_read-look-requires
look_read-look-requires c =
    let on : IsCallOn c.args.self.now c.args.worker Looking (StateOf c.slot_at.result) =
    record { may = c.requires; on = ap StateOf (c.slot_at.ensures ∙ ap slot_of c.worker_place.ensures.place) } in
    c.found-found.ensures.small Looking on

pub step-requires : goal.step-requires
step-requires c = (
  Looking,
  is-step c.requires (ap StateOf (c.slot_at.ensures ∙ ap slot_of c.worker_place.ensures.place)) c.found-found.ensures.word
      (c.act.ensures ∙ c.look_read-look.ensures ∙ ap look_answer c.found-found.ensures.word),
)
