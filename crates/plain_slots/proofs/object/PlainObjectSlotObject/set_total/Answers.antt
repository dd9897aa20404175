use Rattle.slot_history.specs.Calls.{SettingTotal}
use Rattle.plain_slots.proofs.Calls.{total-after}
use Rattle.plain_slots.proofs.Following.{may-make}
use Rattle.plain_slots.proofs.object.PlainObjectSlotObject.set_total.Goals as goal

pub invariant_of-self : goal.invariant_of-self
invariant_of-self c = total-after c.self.inside c.self.invariant c.args.worker c.args.total
    (may-make c.self.inside _ c.self.view_is c.args.worker (SettingTotal c.args.total) c.requires) _ _ (c.step.ensures.places, c.step.ensures.log)
