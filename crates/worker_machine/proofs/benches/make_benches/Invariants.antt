use Rattle.std.proofs.Common.{◌≡◌, ◌≤◌, ℕ, ◌+◌, [], length, slice_get, Some}
use Rattle.std.specs.Arc.{arc_value}
use Rattle.std.specs.Vec.{vec_capacity}
use Rattle.bench_cell.specs.declared.plan.Plan.{Plan}
use Rattle.bench_cell.specs.declared.bench.Bench.{Bench}
use Rattle.bench_cell.specs.Benches.{AreInputsOf, BenchFits}
use Rattle.worker_machine.proofs.benches.make_benches.Given as goal

abbrev pub invariant-loop-done : goal.invariant-loop-done
invariant-loop-done l =
    (length l.benches.items ≡ l.done)
    × (vec_capacity l.fn.benches ≤ vec_capacity l.benches)
    × ((p : Plan) → AreInputsOf p l.id (arc_value l.inputs) → (i u : ℕ) (b : Bench) → i + u + 1 ≡ l.workers → slice_get l.benches.items i ≡ Some b
    → BenchFits p u l.id [] b)
