-- What a bench has to do with the ranges of its worker.
use Rattle.std.specs.Prelude.{◌≡◌, ◌⊎◌, ◌/◌, ◌%◌, ◌++◌, ℕ, List, [], ◌∷◌, map, reverse, MatchOption}
use Rattle.std.specs.Prelude.{IsSome, Option, Some, None, option_map, slice_get}
use Rattle.std.specs.Arc.{arc_value}
use Rattle.plan_ast.specs.Folds.{Tuples, range_of}
use Rattle.pipe_ops.specs.Inputs.{AreInputs, IsAccOf, checked_in, number_in, tables_in}
use Rattle.pipe_ops.specs.StageResults.{union_of}
use Rattle.pipe_ops.specs.declared.acc.Acc.{Acc}
use Rattle.pipe_ops.specs.declared.inputs.Inputs.{Inputs}
use Rattle.slot_history.specs.declared.shape.TheConstants.{STAGES}
use Rattle.bench_cell.specs.Plans.{checked_of, tables_of}
use Rattle.bench_cell.specs.declared.plan.Plan.{Plan}
use Rattle.bench_cell.specs.declared.bench.Bench.{Bench}

-- the tuples from one number up to below another
abbrev pub tuples_from : ℕ × ℕ → Tuples
tuples_from range = range_of range.0 range.1

abbrev pub tuples_in : List (ℕ × ℕ) → Tuples
tuples_in ranges = union_of (map tuples_from ranges)

-- inputs of the task set of an id: those of the plan's query and of that query's stage
pub record AreInputsOf (plan : Plan) (id : ℕ) (inputs : Inputs) : Type 0 where
  pub tables : tables_in inputs ≡ tables_of plan
  pub query : slice_get (checked_of plan) (id / STAGES) ≡ Some (checked_in inputs)
  pub stage : number_in inputs ≡ id % STAGES

-- ---- benches

-- the ranges that a bench noted, the oldest first
abbrev pub ranges_in : Bench → List (ℕ × ℕ)
ranges_in bench = bench.ranges.items

abbrev pub bench_tuples : Bench → Tuples
bench_tuples bench = tuples_in (ranges_in bench)

-- what a bench holds of its tuples
abbrev pub acc_in : Bench → Option Acc
acc_in bench = option_map (λ held. held.value) bench.acc

abbrev pub IsShort : Bench → Type 0
IsShort bench = bench.acc ≡ None

-- a bench has the inputs of a stage, and, unless it is short, holds what the stage makes of the
-- tuples of its ranges
pub record IsBench (bench : Bench) : Type 0 where
  pub inputs : AreInputs (arc_value bench.inputs)
  pub holds : MatchOption (acc_in bench) (Unit {0})
      (IsAccOf (arc_value bench.inputs) (bench_tuples bench))

-- a bench of this worker, task set and inputs that isn't short and worked on no range
pub record IsFresh (worker id : ℕ) (inputs : Inputs) (bench : Bench) : Type 0 where
  pub worker_is : bench.worker ≡ worker
  pub id_is : bench.id ≡ id
  pub inputs_are : arc_value bench.inputs ≡ inputs
  pub bench_is : IsBench bench
  pub whole : IsSome bench.acc
  pub ranges_are : ranges_in bench ≡ []

-- a bench of the task set of an id
pub record IsBenchOf (plan : Plan) (id : ℕ) (bench : Bench) : Type 0 where
  pub id_is : bench.id ≡ id
  pub inputs : AreInputsOf plan id (arc_value bench.inputs)
  pub bench_is : IsBench bench

-- a bench of this worker and task set that is short, or that worked on just these ranges, the
-- newest first
pub record BenchFits (plan : Plan) (worker id : ℕ) (ranges : List (ℕ × ℕ)) (bench : Bench)
    : Type 0 where
  pub worker_is : bench.worker ≡ worker
  pub of_set : IsBenchOf plan id bench
  pub worked : IsShort bench ⊎ (ranges_in bench ≡ reverse ranges)

-- a bench worked on one more range, or became short
pub record HasWorked (from to : ℕ) (old new : Bench) : Type 0 where
  pub worker : new.worker ≡ old.worker
  pub id : new.id ≡ old.id
  pub inputs : new.inputs ≡ old.inputs
  pub bench_is : IsBench new
  pub stays : IsShort old → IsShort new
  pub noted : IsShort new ⊎ (ranges_in new ≡ ranges_in old ++ (from, to) ∷ [])
