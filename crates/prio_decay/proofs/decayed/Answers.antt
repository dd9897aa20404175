use Rattle.std.proofs.Common.{arith, sym, ◌∙◌}
use Rattle.std.proofs.lemmas.Nat.{mul-lt}
use Rattle.prio_decay.proofs.Decays.{priority_after-next, priority_after-bounds, priority_after-clamped, priority_after-stays}
use Rattle.prio_decay.proofs.decayed.Goals as goal

pub loop-quantum-init : goal.loop-quantum-init
loop-quantum-init c =
    c.requires.before ∙ sym (priority_after-clamped c.args.params c.args.from c.args.to c.clamp-quantum.result c.requires.order (omega arith))

pub overflow_mul-priority : goal.overflow_mul-priority
overflow_mul-priority c =
    let bounds = priority_after-bounds c.args.params c.requires.usable c.loop-quantum._quantum in
    let small = mul-lt c.loop-quantum.priority c.args.params.num 10001 1000 (omega (arith, c.loop-quantum.invariant)) (omega arith) in
    omega arith

pub loop-quantum-preserved : goal.loop-quantum-preserved
loop-quantum-preserved c =
    let next = priority_after-next c.args.params c.loop-quantum._quantum (omega arith) in
    rw (next, ← c.loop-quantum.invariant) (omega arith)

pub returns-then-priority-eq-LEAST_PRIORITY : goal.returns-then-priority-eq-LEAST_PRIORITY
returns-then-priority-eq-LEAST_PRIORITY c =
    c.if-priority-eq-LEAST_PRIORITY.true ∙ sym (priority_after-stays c.args.params c.requires.usable c.loop-quantum._quantum c.args.to (omega arith)
    (sym c.loop-quantum.invariant ∙ c.if-priority-eq-LEAST_PRIORITY.true))
