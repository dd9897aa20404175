use Rattle.std.proofs.Common.{ap, ap₂, ◌∙◌}
use Rattle.slot_history.specs.Calls.{MarkingNext}
use Rattle.slot_history.specs.States.{slot_of, id_at}
use Rattle.slot_history.specs.Table.{nth_other}
use Rattle.slot_words.specs.declared.address.Address.TheVariants.{WorkerOf}
use Rattle.slot_words.specs.Encodings.{at_word, marked}
use Rattle.slot_words.specs.Steps.{compare_exchanged, mark_answer, asked_at}
use Rattle.slot_proto.specs.Machines.{place_now}
use Rattle.slot_proto.proofs.Machines.{is-step}
use Rattle.slot_proto.proofs.machine.MachineSlotObject.mark_next.Goals as goal

pub found-found-requires : goal.found-found-requires
found-found-requires c =
    let next = c.next_to_ask.ensures ∙ ap (λ q. nth_other c.args.worker (asked_at q)) c.worker_place-place.ensures.place in
    (MarkingNext, record { may = c.requires; on = ap WorkerOf next })

pub step-requires : goal.step-requires
step-requires c =
    let next = c.next_to_ask.ensures ∙ ap (λ q. nth_other c.args.worker (asked_at q)) c.worker_place-place.ensures.place in
    let at_slot = c.slot_at-slot.ensures ∙ ap slot_of c.worker_place-place.ensures.place in
    let there = c.at_word-there.ensures.word ∙ ap at_word at_slot in
    let mark = c.marked.ensures.word ∙ ap₂ marked there (c.id_at.ensures ∙ ap id_at c.worker_place-place.ensures.place) in
    let p = place_now c.args.self.now c.args.worker in
    let changes = c.compare_exchanged-new.ensures ∙ ap₂ (λ t m. compare_exchanged t m c.found-found.result) there mark
    ∙ ap (compare_exchanged (at_word (slot_of p)) (marked (at_word (slot_of p)) (id_at p))) c.found-found.ensures.word in
    let reads = c.act.ensures ∙ c.mark_read-mark.ensures ∙ ap₂ mark_answer at_slot c.found-found.ensures.word in
    (MarkingNext, is-step c.requires (ap WorkerOf next) changes reads)
