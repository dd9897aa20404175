use Rattle.std.proofs.Common.{◌<◌, length, subst, sym}
use Rattle.std.proofs.lemmas.List.{length-set}
use Rattle.stride_set.specs.Strides.{StrideState, JoinChange}
use Rattle.stride_set.specs.Fields.{state_of}
use Rattle.stride_set.proofs.Joins.{widest-joined, bounded-joined}
use Rattle.stride_set.proofs.Reaches.{IsReach-joined}
use Rattle.stride_set.proofs.Writes.{strides_of-join_change}
use Rattle.stride_set.proofs.StrideSet.join_change.Goals as goal

pub returns : goal.returns
returns c =
    let v = state_of c.self.inside in
    let within : c.args.s < length v.slots = subst (λ (v : StrideState). c.args.s < length v.slots) (sym c.self.view_is) c.requires in
    let e = strides_of-join_change v c.args.s c.max-self-inside-2.result within
    (widest-joined v c.args.s v.floor c.deref.result.now c.spread.result c.max-self-inside-2.result c.deref.ensures.value c.spread.ensures
    c.max-self-inside-2.ensures) in
    rw (← c.self.view_is) e

pub spread-requires : goal.spread-requires
spread-requires c =
    let v = state_of c.self.inside in
    let within : c.args.s < length v.slots = subst (λ (v : StrideState). c.args.s < length v.slots) (sym c.self.view_is) c.requires in
    rw c.deref.ensures.value
    (IsReach-joined v.slots c.args.s _ c.self.inside.reach c.self.invariant.reach within c.max-self-inside.result c.max-self-inside.ensures)

pub invariant_of-self : goal.invariant_of-self
invariant_of-self c =
    let v = state_of c.self.inside in
    let within : c.args.s < length v.slots = subst (λ (v : StrideState). c.args.s < length v.slots) (sym c.self.view_is) c.requires in
    record {
      bounded = bounded-joined v c.args.s v.floor (JoinChange c.args.s) c.max-self-inside-2.result c.self.invariant.bounded
          c.self.view_is c.requires (returns c);
      few = rw length-set c.self.invariant.few;
      reach = IsReach-joined v.slots c.args.s _ c.self.inside.reach c.self.invariant.reach within c.max-self-inside.result c.max-self-inside.ensures;
    }
