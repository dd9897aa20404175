use Rattle.std.proofs.Common.{◌≡◌, ◌<◌, length, max, subst, sym, ap, ◌∙◌}
use Rattle.std.proofs.lemmas.List.{length-set}
use Rattle.stride_set.specs.Slots.{pass_in}
use Rattle.stride_set.specs.Strides.{StrideState, JoinReturn}
use Rattle.stride_set.specs.Fields.{state_of}
use Rattle.stride_set.proofs.Joins.{widest-joined, bounded-joined}
use Rattle.stride_set.proofs.Reaches.{IsReach-joined}
use Rattle.stride_set.proofs.Writes.{pass_in-read, strides_of-join_return}
use Rattle.stride_set.proofs.StrideSet.join_return.Goals as goal

pub returns : goal.returns
returns c =
    let v = state_of c.self.inside in
    let within : c.args.s < length v.slots = subst (λ (v : StrideState). c.args.s < length v.slots) (sym c.self.view_is) c.requires in
    let pass : c.max-pass.result ≡ max (pass_in v.slots c.args.s) v.floor = c.max-pass.ensures ∙ ap (λ p. max p v.floor)
    (pass_in-read v.slots c.args.s c.index.result.now within c.index.ensures) in
    let widest = widest-joined v c.args.s c.max-pass.result c.deref.result.now c.spread.result c.max-self-inside-2.result c.deref.ensures.value
    c.spread.ensures c.max-self-inside-2.ensures in
    rw (← c.self.view_is) (strides_of-join_return v c.args.s c.max-pass.result c.max-self-inside-2.result within pass widest)

pub spread-requires : goal.spread-requires
spread-requires c =
    let v = state_of c.self.inside in
    let within : c.args.s < length v.slots = subst (λ (v : StrideState). c.args.s < length v.slots) (sym c.self.view_is) c.requires in
    rw c.deref.ensures.value
    (IsReach-joined v.slots c.args.s _ c.self.inside.reach c.self.invariant.reach within c.max-self-inside.result c.max-self-inside.ensures)

pub invariant_of-self : goal.invariant_of-self
invariant_of-self c =
    let v = state_of c.self.inside in
    let within : c.args.s < length v.slots = subst (λ (v : StrideState). c.args.s < length v.slots) (sym c.self.view_is) c.requires in
    record {
      bounded = bounded-joined v c.args.s c.max-pass.result (JoinReturn c.args.s) c.max-self-inside-2.result c.self.invariant.bounded
          c.self.view_is c.requires (returns c);
      few = rw length-set c.self.invariant.few;
      reach = IsReach-joined v.slots c.args.s _ c.self.inside.reach c.self.invariant.reach within c.max-self-inside.result c.max-self-inside.ensures;
    }
