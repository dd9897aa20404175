use Rattle.std.proofs.Common.{refl, ap, ◌∙◌}
use Rattle.slot_history.specs.Calls.{Leaving}
use Rattle.slot_words.specs.declared.address.Address.TheVariants.{WorkerOf}
use Rattle.slot_words.specs.Steps.{leave_answer}
use Rattle.slot_station.specs.Replies.{leave_act}
use Rattle.slot_station.specs.Tokens.{LeaveGives}
use Rattle.slot_proto.specs.Machines.{IsCallOn}
use Rattle.slot_proto.proofs.Machines.{brings, is-step}
use Rattle.slot_proto.proofs.machine.MachineSlotObject.leave.Goals as goal

pub found-requires : goal.found-requires
found-requires c = (Leaving, record { may = c.requires; on = refl })

pub leave_read-leave-requires : goal.leave_read-leave-requires
leave_read-leave-requires c =
    let on : IsCallOn c.args.self.now c.args.worker Leaving (WorkerOf c.args.worker) = record { may = c.requires; on = refl } in
    c.found.ensures.small Leaving on

pub step-requires : goal.step-requires
step-requires c =
    (Leaving, is-step c.requires refl refl (c.act.ensures ∙ c.leave_read-leave.ensures.act ∙ ap leave_answer c.found.ensures.word))

pub returns-clause-debt : goal.returns-clause-debt
returns-clause-debt c =
    let r = c.leave_read-leave.result in
    brings c.args.self.now c.step.new.self c.args.worker (leave_act r) c.act.result (λ d q. LeaveGives d c.args.worker q r)
    c.step.ensures c.act.ensures c.worker_place-place.result c.worker_place-place.ensures.place (c.leave_read-leave.ensures.gives c.args.self.now.shape)
