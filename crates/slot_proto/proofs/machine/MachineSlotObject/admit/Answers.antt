use Rattle.std.proofs.Common.{◌+◌, refl, ap, ap₂, ◌∙◌}
use Rattle.slot_history.specs.Calls.{Admitting}
use Rattle.slot_words.specs.declared.address.Address.TheVariants.{ArrivalsAt}
use Rattle.slot_words.specs.Steps.{compare_exchanged, admit_answer}
use Rattle.slot_proto.specs.Machines.{IsCallOn}
use Rattle.slot_proto.proofs.Machines.{is-step}
use Rattle.slot_proto.proofs.machine.MachineSlotObject.admit.Goals as goal

pub found-found-requires : goal.found-found-requires
found-found-requires c = (Admitting c.args.q, record { may = c.requires; on = refl })

pub admit_read-admit-requires : goal.admit_read-admit-requires
admit_read-admit-requires c =
    let on : IsCallOn c.args.self.now c.args.worker (Admitting c.args.q) ArrivalsAt = record { may = c.requires; on = refl } in
    c.found-found.ensures.small (Admitting c.args.q) on

pub step-requires : goal.step-requires
step-requires c =
    let both = ap₂ (λ k m. compare_exchanged k (m + 1) c.found-found.result) c.from.ensures c.from-2.ensures in
    let changes = c.compare_exchanged-new.ensures ∙ both ∙ ap (compare_exchanged c.args.q (c.args.q + 1)) c.found-found.ensures.word in
    let reads = c.act.ensures ∙ c.admit_read-admit.ensures ∙ ap (admit_answer c.args.q) c.found-found.ensures.word in
    (Admitting c.args.q, is-step c.requires refl changes reads)
