use Rattle.std.proofs.Common.{◌<◌, All, arith, subst, take_all}
use Rattle.std.proofs.lemmas.List.Elements.{All-more}
use Rattle.pool_run.proofs.tests.may_run.Goals as goal

pub loop-who-preserved : goal.loop-who-preserved
loop-who-preserved g c = All-more (λ w. w < c.args.workers) c.args.order.now c.loop-who.who-index 0 (omega arith) c.loop-who.invariant (omega arith)

pub returns-clause-order : goal.returns-clause-order
returns-clause-order g c =
    subst (All (λ w. w < c.args.workers)) (take_all c.loop-who.who-index c.args.order.now (omega arith)) c.loop-who.invariant
