use Rattle.std.proofs.Common.{◌+◌, refl, sym, ap, ◌∙◌, cond, lt-ltb, le-ltb}
use Rattle.turn_model.specs.Points as point
use Rattle.worker_machine.proofs.Moving.{quiet-by}
use Rattle.worker_machine.proofs.TakenNotices.{took-changes}
use Rattle.worker_machine.proofs.Calls.{place-by}
use Rattle.worker_machine.proofs.Joining.{changed-slots}
use Rattle.std.specs.Arc.{arc_value}
use Rattle.stride_set.specs.Strides.{Strides, strides_of}
use Rattle.worker_machine.proofs.kept.Core.take_change.Goals as goal

pub invariant_of-self : goal.invariant_of-self
invariant_of-self g c =
    record {
      is_one = c.args.self.now.is_one;
      few_workers = c.args.self.now.few_workers;
      few_slots = c.args.self.now.few_slots;
      passes = ap (λ (x : Strides). x.slots) c.join_all.ensures ∙ changed-slots 64 c.args.part c.take_change-bits.result
          (strides_of c.args.self.now.strides) ∙ c.args.self.now.passes;
      each_known = c.forget_groups.ensures.length ∙ c.args.self.now.each_known;
      room = c.args.self.now.room;
      sized = c.forget_groups.ensures.sized (arc_value c.args.self.now.plan) c.args.self.now.sized;
    }

pub returns-then-part-lt-PARTS-clause-hand : goal.returns-then-part-lt-PARTS-clause-hand
returns-then-part-lt-PARTS-clause-hand g c =
    let f = c.requires.follows in
    (place-by c.take_change-bits.ensures.made f.hand.0, c.if-part-lt-PARTS.true)

pub returns-else-part-lt-PARTS-clause-hand : goal.returns-else-part-lt-PARTS-clause-hand
returns-else-part-lt-PARTS-clause-hand g c =
    let f = c.requires.follows in
    place-by c.take_change-bits.ensures.made f.hand.0

pub returns-then-part-lt-PARTS-clause-moves : goal.returns-then-part-lt-PARTS-clause-moves
returns-then-part-lt-PARTS-clause-moves g c =
    quiet-by c.take_change-bits.ensures.made (λ ms. (refl, refl, refl)) (refl, refl, refl) refl (λ ms h. (
      refl,
      took-changes c.args.part c.take_change-bits.result ms h.knows refl c.join_all.ensures c.forget_groups.ensures.groups (refl, refl, refl) refl,
      sym (ap (λ b. cond b (point.Change (c.args.part + 1)) point.Count) (lt-ltb _ _ c.if-part-lt-PARTS.true)),
    ))

pub returns-else-part-lt-PARTS-clause-moves : goal.returns-else-part-lt-PARTS-clause-moves
returns-else-part-lt-PARTS-clause-moves g c =
    quiet-by c.take_change-bits.ensures.made (λ ms. (refl, refl, refl)) (refl, refl, refl) refl (λ ms h. (
      refl,
      took-changes c.args.part c.take_change-bits.result ms h.knows refl c.join_all.ensures c.forget_groups.ensures.groups (refl, refl, refl) refl,
      sym (ap (λ b. cond b (point.Change (c.args.part + 1)) point.Count) (le-ltb _ _ c.if-part-lt-PARTS.false)),
    ))
