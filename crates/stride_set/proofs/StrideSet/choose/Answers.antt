use Rattle.std.proofs.Common.{length, subst, sym, ap, ◌∙◌, arith}
use Rattle.stride_set.specs.Slots.{choice_among, active_in, pass_in}
use Rattle.stride_set.specs.Strides.{IsBounded, Choose, strides_of}
use Rattle.stride_set.specs.Fields.{state_of}
use Rattle.stride_set.proofs.Choices.{chosen-least, choice_from-idle}
use Rattle.stride_set.proofs.Bounds.{stride_after-bounded}
use Rattle.stride_set.proofs.Writes.{pass_in-read, strides_of-choose}
use Rattle.stride_set.proofs.StrideSet.choose.Goals as goal

pub returns-in_err-s-clause-none : goal.returns-in_err-s-clause-none
returns-in_err-s-clause-none c =
    let v = state_of c.self.inside in
    let is = sym (c.choice.ensures ∙ ap choice_among c.deref.ensures.value) ∙ c.in_err-s.was in
    rw (c.from_residual.ensures, ← c.self.view_is) (choice_from-idle (length v.slots) (active_in v.slots) (pass_in v.slots) is)

pub index-requires : goal.index-requires
index-requires c =
    let v = state_of c.self.inside in
    let least = chosen-least v.slots c.choice.result c.in_ok-s.s (c.choice.ensures ∙ ap choice_among c.deref.ensures.value) c.in_ok-s.was in
    omega (arith, least.in_range, c.self.inside.slots.ok.0)

pub invariant_of-self : goal.invariant_of-self
invariant_of-self c =
    let v = state_of c.self.inside in
    let least = chosen-least v.slots c.choice.result c.in_ok-s.s (c.choice.ensures ∙ ap choice_among c.deref.ensures.value) c.in_ok-s.was in
    let pass = pass_in-read v.slots c.in_ok-s.s c.index.result.now least.in_range c.index.ensures in
    let e = strides_of-choose v c.in_ok-s.s c.index.result.now.pass pass c.self.invariant.bounded.counted in
    record {
      bounded = subst IsBounded (sym e) (stride_after-bounded (strides_of v) (Choose c.in_ok-s.s) c.self.invariant.bounded least);
      few = c.self.invariant.few;
      reach = c.self.invariant.reach;
    }

pub returns-clause-least : goal.returns-clause-least
returns-clause-least c =
    let v = state_of c.self.inside in
    let is = c.choice.ensures ∙ ap choice_among c.deref.ensures.value in
    rw (← c.self.view_is) (chosen-least v.slots c.choice.result c.in_ok-s.s is c.in_ok-s.was)

pub returns-clause-floor : goal.returns-clause-floor
returns-clause-floor c =
    let v = state_of c.self.inside in
    let least = chosen-least v.slots c.choice.result c.in_ok-s.s (c.choice.ensures ∙ ap choice_among c.deref.ensures.value) c.in_ok-s.was in
    let pass = pass_in-read v.slots c.in_ok-s.s c.index.result.now least.in_range c.index.ensures in
    rw (← c.self.view_is) (strides_of-choose v c.in_ok-s.s c.index.result.now.pass pass c.self.invariant.bounded.counted)

pub returns-clause-may_advance : goal.returns-clause-may_advance
returns-clause-may_advance c =
    let v = state_of c.self.inside in
    let least = chosen-least v.slots c.choice.result c.in_ok-s.s (c.choice.ensures ∙ ap choice_among c.deref.ensures.value) c.in_ok-s.was in
    let pass = pass_in-read v.slots c.in_ok-s.s c.index.result.now least.in_range c.index.ensures in
    record { in_range = least.in_range; active = least.is_active; at_floor = sym pass }
