-- Benches in hand.
use Rattle.std.specs.Prelude.{◌≡◌, ℕ, ◌+◌, ◌≤◌, List, [], length, slice_get, Some}
use Rattle.pipe_ops.specs.Inputs.{AreInputs}
use Rattle.pipe_ops.specs.StageResults.{IsWholeResult}
use Rattle.pipe_ops.specs.declared.inputs.Inputs.{Inputs}
use Rattle.pipe_ops.specs.declared.results.StageResult.{StageResult}
use Rattle.slot_history.specs.Histories.{Morsel, Tiles}
use Rattle.bench_cell.specs.declared.plan.Plan.{Plan}
use Rattle.bench_cell.specs.declared.bench.Bench.{Bench}
use Rattle.bench_cell.specs.Plans.{total_of}
use Rattle.bench_cell.specs.Benches.{AreInputsOf, BenchFits}
use Rattle.bench_cell.specs.Tilings.{FitClaims}

-- fresh benches of one task set, that of the last of n workers first, so that the last of them is
-- the one of worker 0
pub record AreFresh (plan : Plan) (id n : ℕ) (benches : List Bench) : Type 0 where
  pub few : length benches ≤ n
  pub fit : (i u : ℕ) (bench : Bench) → i + u + 1 ≡ n → slice_get benches i ≡ Some bench
      → BenchFits plan u id [] bench

-- The benches of all workers on a task set, in the order of the workers, after its end: its claims
-- tile its total, and each bench fits those of its worker.
pub record AreOfTaskSet (plan : Plan) (id : ℕ) (benches : List Bench) : Type 0 where
  pub claims : List Morsel
  pub total : ℕ
  pub total_is : total_of plan id ≡ Some total
  pub tiled : Tiles claims total
  pub fit : FitClaims plan id claims benches

-- inputs of a task set, and its whole result
pub record HasResult (plan : Plan) (id : ℕ) (whole : StageResult) (inputs : Inputs) : Type 0 where
  pub sound : AreInputs inputs
  pub of_set : AreInputsOf plan id inputs
  pub whole_is : IsWholeResult inputs whole

-- the whole result of a task set, for some inputs of it
abbrev pub IsResultFor : Plan → ℕ → StageResult → Type 0
IsResultFor plan id whole = (inputs : Inputs) × HasResult plan id whole inputs
