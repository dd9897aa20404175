use Rattle.std.proofs.Common.{◌≡◌, ℕ, ◌<◌, slice_get, Some}
use Rattle.turn_model.specs.declared.turn.Turn.TheVariants.{Over}
use Rattle.worker_machine.specs.declared.phase.Phase.TheVariants.{Ready}
use Rattle.worker_machine.specs.declared.state.Worker.{Worker}
use Rattle.pool_run.proofs.pool.all_over.Given as goal

abbrev pub invariant-loop-worker : goal.invariant-loop-worker
invariant-loop-worker l = (k : ℕ) (w : Worker) → k < l.worker-index → slice_get l.team k ≡ Some w → w.phase ≡ Ready Over
