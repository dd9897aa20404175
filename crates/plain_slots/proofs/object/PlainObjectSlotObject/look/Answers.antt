use Rattle.std.proofs.Common.{◌∙◌, ap}
use Rattle.slot_history.specs.Calls.{Looking}
use Rattle.plain_slots.specs.Slots.{look_of}
use Rattle.plain_slots.proofs.Calls.{look-after}
use Rattle.plain_slots.proofs.Following.{spot, slot-read, makes}
use Rattle.plain_slots.proofs.object.PlainObjectSlotObject.look.Goals as goal

pub index-requires-2 : goal.index-requires-2
index-requires-2 c = (spot c.self.inside c.self.invariant _ c.self.view_is c.args.worker Looking tt c.requires _ c.index.ensures _ c.slot_at-s.ensures).index

pub invariant_of-self : goal.invariant_of-self
invariant_of-self c =
    let s = spot c.self.inside c.self.invariant _ c.self.view_is c.args.worker Looking tt c.requires _ c.index.ensures _ c.slot_at-s.ensures in
    look-after c.self.inside c.self.invariant c.args.worker c.index.result.now c.slot_at-s.result s c.seen_in-look.result
    (c.seen_in-look.ensures ∙ ap look_of (slot-read c.self.inside c.self.invariant c.slot_at-s.result s.in_slots c.index-2.result.now c.index-2.ensures))
    c.act.result c.act.ensures _ _ (c.step.ensures.places, c.step.ensures.log)

pub returns : goal.returns
returns c = makes _ _ _ _ c.args.worker _ c.act.result c.self.view_is c.act.ensures c.step.ensures.log (invariant_of-self c).legal
