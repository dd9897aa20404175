use Rattle.std.proofs.Common.{◌*◌, ◌/◌, max, subst, sym, ap, ◌∙◌}
use Rattle.std.proofs.lemmas.List.{length-set}
use Rattle.stride_set.specs.Slots.{spread_among}
use Rattle.stride_set.specs.Strides.{StrideState, IsBounded, MayAdvance, Advance, strides_of}
use Rattle.stride_set.specs.Fields.{state_of}
use Rattle.stride_set.proofs.Bounds.{stride_after-bounded}
use Rattle.stride_set.proofs.Reaches.{IsReach-kept}
use Rattle.stride_set.proofs.Writes.{active_in-read, advanced-is, spread_among-advance, strides_of-advance}
use Rattle.stride_set.proofs.StrideSet.advance.Goals as goal

pub widened-self-inside-requires-clause-small : goal.widened-self-inside-requires-clause-small
widened-self-inside-requires-clause-small c =
    let v = state_of c.self.inside in
    let lawful : MayAdvance (strides_of v) c.args.s = subst (λ (v : StrideState). MayAdvance (strides_of v) c.args.s) (sym c.self.view_is) c.requires.chosen in
    let is = advanced-is v c.args.s c.args.ns c.args.priority c.index_mut-slot.result.now c.from.result c.from-2.result c.saturating_add-slot.result
    lawful.in_range c.index_mut-slot.ensures.value c.from.ensures c.from-2.ensures c.saturating_add-slot.ensures in
    rw (c.deref.ensures.value, c.from.ensures) (spread_among-advance v c.args.s c.args.ns c.args.priority _ is c.self.invariant.bounded lawful)

pub widened-self-inside-requires-clause-reach : goal.widened-self-inside-requires-clause-reach
widened-self-inside-requires-clause-reach c =
    let v = state_of c.self.inside in
    let lawful : MayAdvance (strides_of v) c.args.s = subst (λ (v : StrideState). MayAdvance (strides_of v) c.args.s) (sym c.self.view_is) c.requires.chosen in
    let state = active_in-read v.slots c.args.s c.index_mut-slot.result.now lawful.in_range c.index_mut-slot.ensures.value in
    rw c.deref.ensures.value (IsReach-kept v.slots c.args.s _ c.self.inside.reach c.self.invariant.reach lawful.in_range state)

pub returns : goal.returns
returns c =
    let v = state_of c.self.inside in
    let lawful : MayAdvance (strides_of v) c.args.s = subst (λ (v : StrideState). MayAdvance (strides_of v) c.args.s) (sym c.self.view_is) c.requires.chosen in
    let is = advanced-is v c.args.s c.args.ns c.args.priority c.index_mut-slot.result.now c.from.result c.from-2.result c.saturating_add-slot.result
    lawful.in_range c.index_mut-slot.ensures.value c.from.ensures c.from-2.ensures c.saturating_add-slot.ensures in
    let largest = c.max-self-inside.ensures ∙ ap (λ d. max v.largest (c.args.ns * 1048576 / d)) c.from.ensures in
    let widest = c.widened-self-inside.ensures ∙ ap (λ slots. max v.widest (spread_among slots)) c.deref.ensures.value in
    let e = strides_of-advance v c.args.s c.args.ns c.args.priority _ is c.max-self-inside.result c.widened-self-inside.result largest widest in
    rw (← c.self.view_is) e

pub invariant_of-self : goal.invariant_of-self
invariant_of-self c =
    let v = state_of c.self.inside in
    let lawful : MayAdvance (strides_of v) c.args.s = subst (λ (v : StrideState). MayAdvance (strides_of v) c.args.s) (sym c.self.view_is) c.requires.chosen in
    let state = active_in-read v.slots c.args.s c.index_mut-slot.result.now lawful.in_range c.index_mut-slot.ensures.value in
    let bounded = stride_after-bounded (strides_of v) (Advance c.args.s c.args.ns c.args.priority) c.self.invariant.bounded lawful in
    record {
      bounded = subst IsBounded (sym (returns c)) (rw (← c.self.view_is) bounded);
      few = rw length-set c.self.invariant.few;
      reach = IsReach-kept v.slots c.args.s _ c.self.inside.reach c.self.invariant.reach lawful.in_range state;
    }
