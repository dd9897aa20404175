use Rattle.slot_history.specs.Calls.{TakingReturn}
use Rattle.plain_slots.proofs.Notices.{take-returns-after}
use Rattle.plain_slots.proofs.Following.{may-make, counted-asks}
use Rattle.plain_slots.proofs.object.PlainObjectSlotObject.take_return.Goals as goal

pub invariant_of-self : goal.invariant_of-self
invariant_of-self c = rw c.replace-bits.ensures.after (take-returns-after c.self.inside c.self.invariant c.args.worker c.args.part
    (may-make c.self.inside _ c.self.view_is c.args.worker (TakingReturn c.args.part) c.requires) c.mask_index.result c.mask_index.ensures
    c.replace-bits.result (rw c.replace-bits.ensures.value c.index_mut.ensures.value) _ _ (c.step.ensures.places, c.step.ensures.log))

pub step-requires-clause-counted : goal.step-requires-clause-counted
step-requires-clause-counted c = counted-asks c.self.inside c.self.invariant _ c.self.view_is c.args.worker _ c.requires
