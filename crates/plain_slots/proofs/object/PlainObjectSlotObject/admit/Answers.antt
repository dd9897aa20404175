use Rattle.std.proofs.Common.{arith}
use Rattle.slot_history.specs.Calls.{Admitting}
use Rattle.plain_slots.proofs.Calls.{admit-after}
use Rattle.plain_slots.proofs.Following.{may-make, makes}
use Rattle.plain_slots.proofs.object.PlainObjectSlotObject.admit.Goals as goal

pub admit_at-admit-requires : goal.admit_at-admit-requires
admit_at-admit-requires c =
    let (s, h, at, none, few) = (may-make c.self.inside _ c.self.view_is c.args.worker (Admitting c.args.q) c.requires).may in
    let most = c.self.invariant.shape.queries in omega arith

pub invariant_of-self : goal.invariant_of-self
invariant_of-self c =
    let asks = may-make c.self.inside _ c.self.view_is c.args.worker (Admitting c.args.q) c.requires in
    admit-after c.self.inside c.self.invariant c.args.worker c.args.q asks c.admit_at-admit.result c.admit_at-admit.ensures.admit
    c.admit_at-admit.new.admitted c.admit_at-admit.ensures.admitted c.act.result c.act.ensures _ _ (c.step.ensures.places, c.step.ensures.log)

pub returns : goal.returns
returns c = makes _ _ _ _ c.args.worker _ c.act.result c.self.view_is c.act.ensures c.step.ensures.log (invariant_of-self c).legal
