use Rattle.std.proofs.Common.{refl, ap, ◌∙◌}
use Rattle.slot_history.specs.Calls.{Reserving}
use Rattle.slot_words.specs.Steps.{compare_exchanged, reserve_answer}
use Rattle.slot_station.specs.Replies.{reserve_act}
use Rattle.slot_station.specs.Tokens.{ReserveGives}
use Rattle.slot_proto.specs.Machines.{place_now}
use Rattle.slot_proto.proofs.Machines.{brings, is-step}
use Rattle.slot_proto.proofs.machine.MachineSlotObject.reserve.Goals as goal

pub found-found-requires : goal.found-found-requires
found-found-requires c = (Reserving c.args.s, record { may = c.requires; on = refl })

pub step-requires : goal.step-requires
step-requires c = (
  Reserving c.args.s,
  is-step c.requires refl (c.compare_exchanged.ensures ∙ ap (compare_exchanged 0 1) c.found-found.ensures.word)
      (c.act.ensures ∙ c.reserve_read-reserve.ensures.act ∙ ap (reserve_answer c.args.s) c.found-found.ensures.word),
)

pub returns-clause-holder : goal.returns-clause-holder
returns-clause-holder c =
    let r = c.reserve_read-reserve.result in
    let p = place_now c.args.self.now c.args.worker in
    brings c.args.self.now c.step.new.self c.args.worker (reserve_act c.args.s r) c.act.result (λ d q. ReserveGives d c.args.worker q r)
    c.step.ensures c.act.ensures p refl (c.reserve_read-reserve.ensures.gives c.args.self.now.shape p)
