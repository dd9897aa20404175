use Rattle.std.proofs.Common.{◌+◌, ◌*◌, ◌<◌, sym, ap, ◌∙◌, subst}
use Rattle.stride_set.specs.Strides.{Strides, strides_of}
use Rattle.worker_machine.proofs.Joining.{joined-zero, joined-none, joined-yes, joined-no, notice-slots}
use Rattle.worker_machine.specs.Joins.{join_of}
use Rattle.worker_machine.proofs.joins.join_all.Goals.{then-bits-k-eq1, else-bits-k-eq1}
use Rattle.worker_machine.proofs.joins.join_all.Goals as goal

pub returns-then-bits-eq0 : goal.returns-then-bits-eq0
returns-then-bits-eq0 c =
    joined-none (join_of c.args.notice) 64 c.args.part c.args.bits (strides_of c.args.strides.now) c.if-bits-eq0.true

pub loop-k-init : goal.loop-k-init
loop-k-init c =
    joined-zero (join_of c.args.notice) c.args.part c.args.bits (strides_of c.args.strides.now)

pub join-requires : goal.join-requires
join-requires c =
    subst (λ n. c.args.part * 64 + c.loop-k.k < n)
    (sym (ap (λ (x : Strides). x.slots) c.loop-k.invariant ∙ notice-slots c.args.notice c.loop-k.k c.args.part c.args.bits (strides_of c.args.strides.now)))
    (c.requires.names c.loop-k.k c.if-bits-k-eq1.true)

pub loop-k-preserved : goal.loop-k-preserved
loop-k-preserved c =
    elim c.if-bits-k-eq1.branch [
      | then-bits-k-eq1 w ↦ joined-yes (join_of c.args.notice) c.loop-k.k c.args.part c.args.bits (strides_of c.args.strides.now) (strides_of c.loop-k.strides)
          (strides_of c.if-bits-k-eq1.strides) w.if-bits-k-eq1.true c.loop-k.invariant (ap strides_of w.strides-is ∙ w.join.ensures)
      | else-bits-k-eq1 w ↦ ap strides_of w.strides-is ∙ joined-no (join_of c.args.notice) c.loop-k.k c.args.part c.args.bits (strides_of c.args.strides.now)
          (strides_of c.loop-k.strides) w.if-bits-k-eq1.false c.loop-k.invariant
    ]
