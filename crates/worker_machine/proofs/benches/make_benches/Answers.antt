use Rattle.std.proofs.Common.{◌≡◌, ◌+◌, [], ◌∷◌, length, slice_get, Some, ap, ◌∙◌, subst, arith, length-append}
use Rattle.worker_machine.proofs.Steps.{made-more}
use Rattle.worker_machine.proofs.benches.make_benches.Goals as goal

pub loop-done-preserved : goal.loop-done-preserved
loop-done-preserved c =
    let inv = c.loop-done.invariant in
    let e = c.in-Ok-push.ensures.items in
    let len = length-append c.loop-done.benches.items (c.in-Ok.bench ∷ []) in (
      ap length e ∙ len ∙ ap (λ n. n + 1) inv.0,
      omega (arith, inv.1, c.in-Ok-push.ensures.capacity),
      λ p ok i u b at got.
          made-more p c.args.workers c.args.id c.loop-done.done _ c.loop-done.benches.items c.in-Ok.bench inv.0 (inv.2 p ok)
          (omega (arith, c.loop-done-test.true)) (c.in-Ok.ensures p ok) i u b at
          (subst (λ l. slice_get l i ≡ Some b) e got),
    )

pub returns-clause-fresh : goal.returns-clause-fresh
returns-clause-fresh c =
    λ p ok t. record { few = omega (arith, c.loop-done.invariant.0, c.loop-done.auto.done-end); fit = c.loop-done.invariant.2 p ok }
