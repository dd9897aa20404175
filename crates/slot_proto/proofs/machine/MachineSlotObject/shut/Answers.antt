use Rattle.std.proofs.Common.{ap, ◌∙◌, bit_or}
use Rattle.slot_history.specs.Calls.{Shutting}
use Rattle.slot_history.specs.States.{slot_of}
use Rattle.slot_words.specs.declared.address.Address.TheVariants.{StateOf}
use Rattle.slot_words.specs.Steps.{shut_answer}
use Rattle.slot_proto.proofs.Machines.{is-step}
use Rattle.slot_proto.proofs.machine.MachineSlotObject.shut.Goals as goal

pub found-found-requires : goal.found-found-requires
found-found-requires c = (Shutting, record { may = c.requires; on = ap StateOf (c.slot_at.ensures ∙ ap slot_of c.worker_place-place.ensures.place) })

pub step-requires : goal.step-requires
step-requires c = (
  Shutting,
  is-step c.requires (ap StateOf (c.slot_at.ensures ∙ ap slot_of c.worker_place-place.ensures.place)) (ap (λ n. bit_or n 1) c.found-found.ensures.word)
      (c.act.ensures ∙ c.shut_read-shut.ensures.act ∙ ap shut_answer c.found-found.ensures.word),
)
