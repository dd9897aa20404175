use Rattle.std.proofs.Common.{◌+◌, ◌^◌, ◌<◌, arith}
use Rattle.slot_history.specs.Calls.{NotingDone}
use Rattle.plain_slots.proofs.Calls.{note-after}
use Rattle.plain_slots.proofs.Counts.{finished-fits}
use Rattle.plain_slots.proofs.Following.{may-make}
use Rattle.plain_slots.proofs.object.PlainObjectSlotObject.note_done.Goals as goal

pub overflow_add-self : goal.overflow_add-self
overflow_add-self c =
    let (s, h, at, query, once, some, few) = c.requires.may in
    let fits : c.self.inside.finished + c.args.k < 2 ^ 32 = finished-fits c.self.inside c.self.invariant c.args.k (omega arith) in omega arith

pub invariant_of-self : goal.invariant_of-self
invariant_of-self c = note-after c.self.inside c.self.invariant c.args.worker c.args.k
    (may-make c.self.inside _ c.self.view_is c.args.worker (NotingDone c.args.k) c.requires) _ _ (c.step.ensures.places, c.step.ensures.log)
