use Rattle.std.proofs.Common.{sym, ap, ap₂, ◌∙◌, subst}
use Rattle.slot_history.specs.Calls.{Sweeping}
use Rattle.slot_history.specs.States.{slot_of}
use Rattle.slot_words.specs.declared.address.Address.TheVariants.{CounterOf}
use Rattle.slot_words.specs.Steps.{added, sweep_answer, marked_at}
use Rattle.slot_words.specs.Numbers.{IsSmall}
use Rattle.slot_station.specs.Replies.{sweep_act}
use Rattle.slot_station.specs.Tokens.{SweepGives}
use Rattle.slot_proto.specs.Machines.{IsCallOn}
use Rattle.slot_proto.proofs.Machines.{brings, is-step}
use Rattle.slot_proto.proofs.machine.MachineSlotObject.sweep.Goals as goal

pub found-found-requires : goal.found-found-requires
found-found-requires c = (Sweeping, record { may = c.requires; on = ap CounterOf (c.slot_at.ensures ∙ ap slot_of c.worker_place-place.ensures.place) })

pub sweep_read-sweep-requires : goal.sweep_read-sweep-requires
sweep_read-sweep-requires c =
    let marks = c.marked_at-marked.ensures ∙ ap marked_at c.worker_place-place.ensures.place in
    let on : IsCallOn c.args.self.now c.args.worker Sweeping (CounterOf c.slot_at.result) =
    record { may = c.requires; on = ap CounterOf (c.slot_at.ensures ∙ ap slot_of c.worker_place-place.ensures.place) } in
    subst (λ m. IsSmall (sweep_answer m c.found-found.result)) (sym marks) (c.found-found.ensures.small Sweeping on)

pub step-requires : goal.step-requires
step-requires c =
    let marks = c.marked_at-marked.ensures ∙ ap marked_at c.worker_place-place.ensures.place in
    let on = ap CounterOf (c.slot_at.ensures ∙ ap slot_of c.worker_place-place.ensures.place) in
    let reads = c.act.ensures ∙ c.sweep_read-sweep.ensures.act ∙ ap₂ sweep_answer marks c.found-found.ensures.word in
    (Sweeping, is-step c.requires on (ap₂ added (c.from.ensures ∙ marks) c.found-found.ensures.word) reads)

pub returns-clause-holder : goal.returns-clause-holder
returns-clause-holder c =
    let r = c.sweep_read-sweep.result in
    brings c.args.self.now c.step.new.self c.args.worker (sweep_act r) c.act.result (λ d q. SweepGives d c.args.worker q r)
    c.step.ensures c.act.ensures c.worker_place-place.result c.worker_place-place.ensures.place (c.sweep_read-sweep.ensures.gives c.args.self.now.shape)
