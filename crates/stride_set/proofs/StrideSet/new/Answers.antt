use Rattle.std.proofs.Common.{◌≡◌, List, length, replicate, subst, sym, ap, ◌∙◌, rules, arith}
use Rattle.std.proofs.lemmas.List.{length-replicate}
use Rattle.stride_set.specs.declared.Slot.{Slot}
use Rattle.stride_set.specs.Slots.{idle}
use Rattle.stride_set.specs.Strides.{Strides, IsBounded, strides_of}
use Rattle.stride_set.proofs.Bounds.{new_strides-bounded}
use Rattle.stride_set.proofs.Writes.{strides_of-new}
use Rattle.stride_set.proofs.StrideSet.new.Goals as goal

pub invariant_of-result : goal.invariant_of-result
invariant_of-result c =
    let items : c.in_ok-vec.field-0.items ≡ replicate c.args.slots idle = c.in_ok-vec.ensures.items_if_clones_equal (λ y same. search rules) in
    let e = ap (λ (slots : List Slot). strides_of (record { slots = slots; floor = 0; largest = 0; widest = 0 })) items ∙ strides_of-new c.args.slots in
    record {
      bounded = subst IsBounded (sym e) (new_strides-bounded c.args.slots);
      few = omega (arith, ap length items, length-replicate c.args.slots idle, c.ranges.slots.fits);
      reach = record { within = omega arith; idle_beyond = λ s past. ap (λ (st : Strides). st.active s) e };
    }

pub returns : goal.returns
returns c =
    let items : c.in_ok-vec.field-0.items ≡ replicate c.args.slots idle = c.in_ok-vec.ensures.items_if_clones_equal (λ y same. search rules) in
    ap (λ (slots : List Slot). strides_of (record { slots = slots; floor = 0; largest = 0; widest = 0 })) items ∙ strides_of-new c.args.slots
