use Rattle.std.proofs.Common.{◌≡◌, ◌&&◌, ◌||◌, true, false, nat_lt, subst, refl, sym, arith, ◌∙◌}
use Rattle.std.specs.Option.{is_none}
use Rattle.std.proofs.lemmas.Bool.{false≢true}
use Rattle.stride_set.specs.Slots.{active_in, pass_in, choice_from}
use Rattle.stride_set.proofs.Choices.{HasChoice-none, HasChoice-take, HasChoice-keep, choice_among-reach}
use Rattle.stride_set.proofs.choice.Goals as goal
use Rattle.stride_set.proofs.choice.Goals.{then-slot+then-slot-least, then-is_none, else-is_none}
use Rattle.stride_set.proofs.choice.Goals.{else-slot, else-slot-via-then-slot+else-slot-least, else-slot-via-else-slot}

pub loop-s-init : goal.loop-s-init
loop-s-init c = HasChoice-none (active_in c.args.slots.now) (pass_in c.args.slots.now) 0

pub loop-s-preserved : goal.loop-s-preserved
loop-s-preserved c =
    let active = active_in c.args.slots.now in
    let pass = pass_in c.args.slots.now in
    elim c.if-slot.branch [
      | then-slot+then-slot-least w ↦
          let less : (is_none c.loop-s.choice || nat_lt (pass c.loop-s.s) c.loop-s.least) ≡ true = elim w.if-is_none.branch [
            | then-is_none v ↦ rw (w.is_none.ensures, v.if-is_none.true) refl
            | else-is_none v ↦ rw (w.is_none.ensures, v.if-is_none.false) (sym v.value-is ∙ w.if-slot-least.true)
          ] in
          rw (w.choice-is, w.least-is) (HasChoice-take c.loop-s.s active pass c.loop-s.choice c.loop-s.least c.loop-s.invariant w.if-slot.true less)
      | else-slot w ↦
          let stays : (active c.loop-s.s && (is_none c.loop-s.choice || nat_lt (pass c.loop-s.s) c.loop-s.least)) ≡ false = elim w.else-slot.branch [
            | else-slot-via-then-slot+else-slot-least v ↦ rw v.if-slot.true (elim v.if-is_none.branch [
              | then-is_none u ↦ absurd (false≢true (sym v.if-slot-least.false ∙ u.value-is ∙ u.if-is_none.true))
              | else-is_none u ↦ rw (v.is_none.ensures, u.if-is_none.false) (sym u.value-is ∙ v.if-slot-least.false)
            ])
            | else-slot-via-else-slot v ↦ rw v.if-slot.false refl
          ] in
          rw (w.choice-is, w.least-is) (HasChoice-keep c.loop-s.s active pass c.loop-s.choice c.loop-s.least c.loop-s.invariant stays)
    ]

pub returns : goal.returns
returns c =
    let slots = c.args.slots.now in
    let all : c.loop-s.s ≡ c.args.reach = omega arith in
    subst (λ n. c.loop-s.choice ≡ choice_from n (active_in slots) (pass_in slots)) all c.loop-s.invariant.chosen
    ∙ choice_among-reach slots c.args.reach c.requires.reach
