use Rattle.std.proofs.Common.{◌≡◌, ◌++◌}
use Rattle.std.specs.Vec.Iter.{into_iter_items}
use Rattle.pool_run.specs.Collected.{HaveTold}
use Rattle.pool_run.proofs.report.collect.Given as goal

abbrev pub invariant-loop-worker : goal.invariant-loop-worker
invariant-loop-worker l = record {
  split : l.fn.team.items ≡ l.yielded ++ into_iter_items l.worker-iterator;
  told : HaveTold l.yielded l.parts;
}
