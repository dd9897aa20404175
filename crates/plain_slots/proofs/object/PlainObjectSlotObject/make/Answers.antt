use Rattle.plain_slots.proofs.Opening.{opens}
use Rattle.plain_slots.proofs.object.PlainObjectSlotObject.make.Goals as goal

pub invariant_of-result : goal.invariant_of-result
invariant_of-result c = opens c.args.shape _ _ _ _ _ _ _ c.requires
    (c.in_ok-vec.ensures.items_if_clones_equal (λ y e. e)) (c.in_ok-vec-2.ensures.items_if_clones_equal (λ y e. e))
    (c.in_ok-vec-3.ensures.items_if_clones_equal (λ y e. e))
    (c.in_ok-vec-4.ensures.items_if_clones_equal (λ y e. e)) (c.in_ok-vec-5.ensures.items_if_clones_equal (λ y e. e))
    (c.in_ok-vec-6.ensures.items_if_clones_equal (λ y e. e)) c.in_ok-new.ensures
