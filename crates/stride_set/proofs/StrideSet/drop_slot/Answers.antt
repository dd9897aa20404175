use Rattle.std.proofs.Common.{◌<◌, length, refl, subst, sym}
use Rattle.std.proofs.lemmas.List.{length-set}
use Rattle.stride_set.specs.Strides.{StrideState, IsBounded, DropSlot, strides_of}
use Rattle.stride_set.specs.Fields.{state_of}
use Rattle.stride_set.proofs.Bounds.{stride_after-bounded}
use Rattle.stride_set.proofs.Reaches.{IsReach-dropped}
use Rattle.stride_set.proofs.Writes.{pass_in-read, strides_of-drop_slot}
use Rattle.stride_set.proofs.StrideSet.drop_slot.Goals as goal

pub invariant_of-self : goal.invariant_of-self
invariant_of-self c =
    let v = state_of c.self.inside in
    let within : c.args.s < length v.slots = subst (λ (v : StrideState). c.args.s < length v.slots) (sym c.self.view_is) c.requires in
    let pass = pass_in-read v.slots c.args.s c.index_mut.result.now within c.index_mut.ensures.value in
    let e = strides_of-drop_slot v c.args.s c.index_mut.result.now.pass within pass c.self.invariant.bounded.counted in
    record {
      bounded = subst IsBounded (sym e) (stride_after-bounded (strides_of v) (DropSlot c.args.s) c.self.invariant.bounded within);
      few = rw length-set c.self.invariant.few;
      reach = IsReach-dropped v.slots c.args.s _ c.self.inside.reach c.self.invariant.reach within refl;
    }

pub returns : goal.returns
returns c =
    let v = state_of c.self.inside in
    let within : c.args.s < length v.slots = subst (λ (v : StrideState). c.args.s < length v.slots) (sym c.self.view_is) c.requires in
    let pass = pass_in-read v.slots c.args.s c.index_mut.result.now within c.index_mut.ensures.value in
    let e = strides_of-drop_slot v c.args.s c.index_mut.result.now.pass within pass c.self.invariant.bounded.counted in
    rw (← c.self.view_is) e
