use Rattle.std.proofs.Common.{◌≡◌, subst, arith, ◌∙◌}
use Rattle.stride_set.specs.Slots.{active_in, pass_in}
use Rattle.stride_set.proofs.Spreads.{HasEnds, HasEnds-none, HasEnds-skip, HasEnds-take, spread_from-ends, spread_among-reach}
use Rattle.stride_set.proofs.spread.Goals as goal
use Rattle.stride_set.proofs.spread.Goals.{then-slot, else-slot}

pub loop-s-init : goal.loop-s-init
loop-s-init c = HasEnds-none (active_in c.args.slots.now) (pass_in c.args.slots.now)

pub loop-s-preserved : goal.loop-s-preserved
loop-s-preserved c =
    let active = active_in c.args.slots.now in
    let pass = pass_in c.args.slots.now in
    elim c.if-slot.branch [
      | then-slot w ↦ rw (w.least-is, w.greatest-is, w.min-least.ensures, w.max-greatest.ensures)
          (HasEnds-take c.loop-s.s active pass c.loop-s.least c.loop-s.greatest w.if-slot.true
          (omega (arith, w.max-greatest.type_inv, w.max-greatest.ensures)) c.loop-s.invariant)
      | else-slot w ↦ rw (w.least-is, w.greatest-is) (HasEnds-skip c.loop-s.s active pass c.loop-s.least c.loop-s.greatest
          w.if-slot.false c.loop-s.invariant)
    ]

pub returns : goal.returns
returns c =
    let active = active_in c.args.slots.now in
    let pass = pass_in c.args.slots.now in
    let all : c.loop-s.s ≡ c.args.reach = omega arith in
    c.saturating_sub.ensures ∙ spread_from-ends c.args.reach active pass c.loop-s.least c.loop-s.greatest
    (subst (λ n. HasEnds n active pass c.loop-s.least c.loop-s.greatest) all c.loop-s.invariant) ∙ spread_among-reach c.args.slots.now c.args.reach c.requires
