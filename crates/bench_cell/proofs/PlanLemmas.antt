-- The totals of a plan's task sets.
use Rattle.std.proofs.Common.{◌≡◌, ◌+◌, ◌*◌, ◌/◌, ◌%◌, ◌<◌, ◌≤◌, ℕ, Option, Some, None, arith, cond, ap, sym, ◌∙◌, slice_get}
use Rattle.std.proofs.Math.Nat.{mul_comm}
use Rattle.std.proofs.lemmas.Bool.{lt-ltb}
use Rattle.std.proofs.lemmas.Nat.{div-mul-add, mod-mul-add}
use Rattle.std.proofs.lemmas.Option.{slice_get-map}
use Rattle.std.specs.Option.{option_and_then, option_map}
use Rattle.plan_ast.specs.Bounds.{IsInBounds}
use Rattle.slot_history.specs.declared.shape.TheConstants.{STAGES}
use Rattle.plan_ast.specs.Checks.{query_of}
use Rattle.plan_ast.specs.Stages.{merges_of, stage_at, stages_of, tuples_of}
use Rattle.plan_ast.specs.declared.checks.Checked.{Checked}
use Rattle.plan_ast.specs.declared.queries.Output.{Output}
use Rattle.plan_ast.specs.declared.queries.Output.TheVariants.{Rows, Totals, Groups}
use Rattle.plan_ast.specs.declared.queries.Query.{Query}
use Rattle.turn_model.specs.Workloads.{total_at}
use Rattle.bench_cell.specs.Plans.{checked_of, stages_in, subject_of_plan, tables_of, total_of}
use Rattle.bench_cell.specs.declared.plan.Plan.{Plan}

merges_few : (output : Output) → merges_of output ≤ 1
merges_few (Rows columns) = omega arith
merges_few (Totals aggs) = omega arith
merges_few (Groups by aggs) = omega arith

pub stages_few : (query : Query) → IsInBounds query → stages_of query ≤ 4
stages_few query bounds = omega (arith, bounds.joins, merges_few query.output)

-- the total of a stage of a query of the plan, by their numbers, if the plan has them
abbrev pub total_by : Plan → ℕ → ℕ → Option ℕ
total_by plan q stage = option_and_then (total_at (tables_of plan) stage) (slice_get (subject_of_plan plan).queries q)

-- the query of this number is the one that was checked
pub query-at : (plan : Plan) (q : ℕ) (checked : Checked) → slice_get (checked_of plan) q ≡ Some checked
    → slice_get (subject_of_plan plan).queries q ≡ Some (query_of checked)
query-at plan q checked at = slice_get-map query_of (checked_of plan) q ∙ ap (option_map query_of) at

-- the total of a stage that the query of this number has
pub total_by-is : (plan : Plan) (q stage : ℕ) (checked : Checked) → slice_get (checked_of plan) q ≡ Some checked → stage < stages_in checked
    → total_by plan q stage ≡ Some (tuples_of (tables_of plan) (query_of checked) (stage_at (query_of checked) stage))
total_by-is plan q stage checked at below =
    ap (option_and_then (total_at (tables_of plan) stage)) (query-at plan q checked at)
    ∙ ap (λ b. cond b (Some (tuples_of (tables_of plan) (query_of checked) (stage_at (query_of checked) stage))) None) (lt-ltb stage (stages_in checked) below)

-- the same by the task set's id
pub total_of-is : (plan : Plan) (q stage total : ℕ) (checked : Checked) → slice_get (checked_of plan) q ≡ Some checked → stage < stages_in checked
    → IsInBounds (query_of checked) → total ≡ tuples_of (tables_of plan) (query_of checked) (stage_at (query_of checked) stage)
    → total_of plan (STAGES * q + stage) ≡ Some total
total_of-is plan q stage total checked at below bounds is =
    let small : stage < STAGES = omega (arith, below, stages_few (query_of checked) bounds) in
    let turned : STAGES * q + stage ≡ q * STAGES + stage = ap (λ n. n + stage) (mul_comm STAGES q) in
    let query : (STAGES * q + stage) / STAGES ≡ q = ap (λ n. n / STAGES) turned ∙ div-mul-add q STAGES stage small in
    let number : (STAGES * q + stage) % STAGES ≡ stage = ap (λ n. n % STAGES) turned ∙ mod-mul-add q STAGES stage small in
    ap (λ n. total_by plan n ((STAGES * q + stage) % STAGES)) query ∙ ap (total_by plan q) number ∙ total_by-is plan q stage checked at below ∙ ap Some (sym is)
