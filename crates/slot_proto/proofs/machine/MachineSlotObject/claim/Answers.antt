use Rattle.std.proofs.Common.{ap, ap₂, ◌∙◌}
use Rattle.slot_history.specs.Calls.{Claiming}
use Rattle.slot_history.specs.States.{slot_of}
use Rattle.slot_words.specs.declared.address.Address.TheVariants.{CursorOf}
use Rattle.slot_words.specs.Steps.{added, claim_answer}
use Rattle.slot_station.specs.Replies.{claim_act}
use Rattle.slot_station.specs.Tokens.{ClaimGives}
use Rattle.slot_proto.proofs.Machines.{brings, is-step}
use Rattle.slot_proto.proofs.machine.MachineSlotObject.claim.Goals as goal

pub found-found-requires : goal.found-found-requires
found-found-requires c = (Claiming c.args.n, record { may = c.requires; on = ap CursorOf (c.slot_at.ensures ∙ ap slot_of c.worker_place-place.ensures.place) })

pub step-requires : goal.step-requires
step-requires c = (
  Claiming c.args.n,
  is-step c.requires (ap CursorOf (c.slot_at.ensures ∙ ap slot_of c.worker_place-place.ensures.place)) (ap₂ added c.from.ensures c.found-found.ensures.word)
      (c.act.ensures ∙ c.claim_read-claim.ensures.act ∙ ap (claim_answer c.args.n) c.found-found.ensures.word),
)

pub returns-clause-spent : goal.returns-clause-spent
returns-clause-spent c =
    let r = c.claim_read-claim.result in
    brings c.args.self.now c.step.new.self c.args.worker (claim_act c.args.n r) c.act.result (λ d q. ClaimGives d c.args.worker q r)
    c.step.ensures c.act.ensures c.worker_place-place.result c.worker_place-place.ensures.place (c.claim_read-claim.ensures.gives c.args.self.now.shape)
