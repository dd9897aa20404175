-- Inputs of task sets, and the ranges of benches.
use Rattle.std.proofs.Common.{◌≡◌, ℕ, ◌+◌, ◌/◌, ◌%◌, ◌<◌, ◌≤◌, Some, IsSome, ◌∙◌}
use Rattle.std.proofs.Common.{slice_get, refl, sym, ap, subst, arith}
use Rattle.slot_history.specs.declared.shape.TheConstants.{STAGES}
use Rattle.plan_ast.specs.Bounds.{IsInBounds}
use Rattle.plan_ast.specs.Stages.{merges_of, stages_of}
use Rattle.plan_ast.specs.declared.queries.Output.{Output}
use Rattle.plan_ast.specs.declared.queries.Output.TheVariants.{Rows, Totals, Groups}
use Rattle.plan_ast.specs.declared.queries.Query.{Query}
use Rattle.pipe_ops.specs.Inputs.{AreInputs, query_in, total_in}
use Rattle.pipe_ops.specs.StageResults.{IsNext}
use Rattle.pipe_ops.specs.declared.inputs.Inputs.{Inputs}
use Rattle.bench_cell.specs.declared.plan.Plan.{Plan}
use Rattle.bench_cell.specs.Plans.{checked_of, total_of}
use Rattle.bench_cell.specs.Benches.{AreInputsOf}
use Rattle.bench_cell.proofs.GatheringLemmas.{total_of-inputs}
use Rattle.worker_machine.specs.Plans.{IsTask}

-- the tuples of the inputs of a task set are its total
pub total-in : (plan : Plan) (id : ℕ) (inputs : Inputs) → AreInputsOf plan id inputs → AreInputs inputs → total_of plan id ≡ Some (total_in inputs)
total-in = total_of-inputs

pub task-in : (plan : Plan) (id : ℕ) (inputs : Inputs) → AreInputsOf plan id inputs → AreInputs inputs → IsTask plan id
task-in plan id inputs ok sound = subst IsSome (sym (total-in plan id inputs ok sound)) refl

-- the inputs of the next stage of the same query are those of the next task set
pub next-inputs : (plan : Plan) (id : ℕ) (before after : Inputs) → AreInputsOf plan id before → IsNext before after → id % STAGES + 1 < STAGES
    → AreInputsOf plan (id + 1) after
next-inputs plan id before after ok next low =
    let q : (id + 1) / STAGES ≡ id / STAGES = omega (arith, low) in
    let k : (id + 1) % STAGES ≡ id % STAGES + 1 = omega (arith, low) in
    record {
      tables = next.tables ∙ ok.tables;
      query = ap (slice_get (checked_of plan)) q ∙ ok.query ∙ ap Some (sym next.checked);
      stage = next.stage ∙ ap (λ n. n + 1) ok.stage ∙ sym k;
    }

merges-few : (output : Output) → merges_of output ≤ 1
merges-few (Rows columns) = omega arith
merges-few (Totals aggs) = omega arith
merges-few (Groups by aggs) = omega arith

pub few-stages : (q : Query) → IsInBounds q → stages_of q ≤ 4
few-stages q ok = let few = merges-few q.output in let joins = ok.joins in omega (arith, few, joins)

-- a stage of which there is a next one
pub low-stage : (plan : Plan) (id : ℕ) (before after : Inputs) → AreInputsOf plan id before → IsNext before after → AreInputs after → id % STAGES + 1 < STAGES
low-stage plan id before after ok next whole =
    let few = few-stages (query_in after) whole.checked.bounds in
    let at = whole.stage in
    let is = next.stage in
    let was = ok.stage in
    omega (arith, few, at, is, was)
