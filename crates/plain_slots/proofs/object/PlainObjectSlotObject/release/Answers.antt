use Rattle.slot_history.specs.Calls.{Releasing}
use Rattle.plain_slots.proofs.Endings.{release-after}
use Rattle.plain_slots.proofs.Following.{spot}
use Rattle.plain_slots.proofs.object.PlainObjectSlotObject.release.Goals as goal

pub index_mut-requires : goal.index_mut-requires
index_mut-requires c =
    (spot c.self.inside c.self.invariant _ c.self.view_is c.args.worker Releasing tt c.requires _ c.index.ensures _ c.slot_at-s.ensures).index

pub invariant_of-self : goal.invariant_of-self
invariant_of-self c = release-after c.self.inside c.self.invariant c.args.worker c.index.result.now c.slot_at-s.result
    (spot c.self.inside c.self.invariant _ c.self.view_is c.args.worker Releasing tt c.requires _ c.index.ensures _ c.slot_at-s.ensures)
    _ _ (c.step.ensures.places, c.step.ensures.log)
