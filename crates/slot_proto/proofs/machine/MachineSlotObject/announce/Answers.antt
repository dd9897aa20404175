use Rattle.std.proofs.Common.{refl, ap, ap₂, ◌∙◌, bit_or}
use Rattle.slot_history.specs.Calls.{AnnouncingNext}
use Rattle.slot_history.specs.States.{slot_of}
use Rattle.slot_history.specs.Allowed.{bit_of}
use Rattle.slot_words.specs.Steps.{mask_told}
use Rattle.slot_proto.proofs.Machines.{is-step}
use Rattle.slot_proto.proofs.machine.MachineSlotObject.announce.Goals as goal

pub found-found-requires : goal.found-found-requires
found-found-requires c = (AnnouncingNext, record { may = c.requires; on = c.mask_told-mask.ensures ∙ ap mask_told c.worker_place-place.ensures.place })

pub step-requires : goal.step-requires
step-requires c =
    let at_slot = c.slot_at.ensures ∙ ap slot_of c.worker_place-place.ensures.place in
    let on = c.mask_told-mask.ensures ∙ ap mask_told c.worker_place-place.ensures.place in
    (AnnouncingNext, is-step c.requires on (ap₂ (λ n s. bit_or n (bit_of s)) c.found-found.ensures.word at_slot) refl)
