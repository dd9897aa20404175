use Rattle.std.proofs.Common.{ap, ◌∙◌}
use Rattle.slot_history.specs.Calls.{Paying}
use Rattle.slot_history.specs.States.{slot_of}
use Rattle.slot_words.specs.declared.address.Address.TheVariants.{CounterOf}
use Rattle.slot_words.specs.Steps.{one_less, pay_answer}
use Rattle.slot_station.specs.Replies.{pay_act}
use Rattle.slot_station.specs.Tokens.{PayGives}
use Rattle.slot_proto.proofs.Machines.{brings, is-step}
use Rattle.slot_proto.proofs.machine.MachineSlotObject.pay.Goals as goal

pub found-found-requires : goal.found-found-requires
found-found-requires c = (Paying, record { may = c.requires; on = ap CounterOf (c.slot_at.ensures ∙ ap slot_of c.worker_place-place.ensures.place) })

pub step-requires : goal.step-requires
step-requires c = (
  Paying,
  is-step c.requires (ap CounterOf (c.slot_at.ensures ∙ ap slot_of c.worker_place-place.ensures.place)) (ap one_less c.found-found.ensures.word)
      (c.act.ensures ∙ c.pay_read-pay.ensures.act ∙ ap pay_answer c.found-found.ensures.word),
)

pub returns-clause-holder : goal.returns-clause-holder
returns-clause-holder c =
    let r = c.pay_read-pay.result in
    brings c.args.self.now c.step.new.self c.args.worker (pay_act r) c.act.result (λ d q. PayGives d c.args.worker q r)
    c.step.ensures c.act.ensures c.worker_place-place.result c.worker_place-place.ensures.place (c.pay_read-pay.ensures.gives c.args.self.now.shape)
