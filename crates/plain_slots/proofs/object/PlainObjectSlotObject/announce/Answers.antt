use Rattle.slot_history.specs.Calls.{AnnouncingNext}
use Rattle.plain_slots.proofs.Notices.{can-tell, announce-after}
use Rattle.plain_slots.proofs.Following.{may-make, counted-asks, counted-then}
use Rattle.plain_slots.proofs.object.PlainObjectSlotObject.announce.Goals as goal

pub announce_at-requires : goal.announce_at-requires
announce_at-requires c =
    let asks = may-make c.self.inside _ c.self.view_is c.args.worker AnnouncingNext c.requires in record {
      returns = can-tell c.self.inside c.self.invariant c.args.worker asks c.index.result.now c.index.ensures _ c.self.invariant.returns_are.count;
      changes = can-tell c.self.inside c.self.invariant c.args.worker asks c.index.result.now c.index.ensures _ c.self.invariant.changes_are.count;
    }

pub step-requires-clause-counted : goal.step-requires-clause-counted
step-requires-clause-counted c = counted-asks c.self.inside c.self.invariant _ c.self.view_is c.args.worker _ c.requires

pub invariant_of-self : goal.invariant_of-self
invariant_of-self c =
    let asks = may-make c.self.inside _ c.self.view_is c.args.worker AnnouncingNext c.requires in
    announce-after c.self.inside c.self.invariant c.args.worker asks c.index.result.now c.index.ensures _ _ c.announce_at.ensures.returns
    c.announce_at.ensures.changes _ _ (c.step.ensures.places, c.step.ensures.log)

pub returns-clause-counted : goal.returns-clause-counted
returns-clause-counted c = counted-then c.self.inside c.self.invariant _ c.self.view_is c.args.worker AnnouncingNext c.requires
