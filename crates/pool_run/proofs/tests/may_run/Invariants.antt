use Rattle.std.proofs.Common.{◌<◌, All, take}
use Rattle.pool_run.proofs.tests.may_run.Given as goal

abbrev pub invariant-loop-who : goal.invariant-loop-who
invariant-loop-who g l = All (λ w. w < l.workers) (take l.who-index l.order)
