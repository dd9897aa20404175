use Rattle.slot_history.specs.Calls.{TakingChange}
use Rattle.plain_slots.proofs.Notices.{take-changes-after}
use Rattle.plain_slots.proofs.Following.{may-make, counted-asks}
use Rattle.plain_slots.proofs.object.PlainObjectSlotObject.take_change.Goals as goal

pub step-requires-clause-counted : goal.step-requires-clause-counted
step-requires-clause-counted c = counted-asks c.self.inside c.self.invariant _ c.self.view_is c.args.worker _ c.requires

pub invariant_of-self : goal.invariant_of-self
invariant_of-self c = rw c.replace-bits.ensures.after (take-changes-after c.self.inside c.self.invariant c.args.worker c.args.part
    (may-make c.self.inside _ c.self.view_is c.args.worker (TakingChange c.args.part) c.requires) c.mask_index.result c.mask_index.ensures
    c.replace-bits.result (rw c.replace-bits.ensures.value c.index_mut.ensures.value) _ _ (c.step.ensures.places, c.step.ensures.log))
