-- Plans, and the task sets of their queries.
use Rattle.std.specs.Prelude.{ℕ, List, map, Option, sum_by}
use Rattle.std.specs.Arc.{arc_value}
use Rattle.plan_ast.specs.Checks.{query_of}
use Rattle.plan_ast.specs.Stages.{stages_of}
use Rattle.plan_ast.specs.Subject.{Subject}
use Rattle.plan_ast.specs.declared.checks.Checked.{Checked}
use Rattle.plan_ast.specs.declared.queries.NamedTable.{NamedTable}
use Rattle.turn_model.specs.Workloads.{total_in}
use Rattle.bench_cell.specs.declared.plan.Plan.{Plan}

abbrev pub tables_of : Plan → List NamedTable
tables_of plan = (arc_value plan.tables).items

abbrev pub checked_of : Plan → List Checked
checked_of plan = map arc_value plan.queries.items

-- the subject that a plan holds
abbrev pub subject_of_plan : Plan → Subject
subject_of_plan plan = record { tables = tables_of plan; queries = map query_of (checked_of plan) }

-- the number of stages of a query that was checked
abbrev pub stages_in : Checked → ℕ
stages_in checked = stages_of (query_of checked)

-- the number of task sets of all queries
abbrev pub sets_of : Plan → ℕ
sets_of plan = sum_by (λ query. stages_in (arc_value query)) plan.queries.items

-- the total of the task set of an id, if the plan has one
abbrev pub total_of : Plan → ℕ → Option ℕ
total_of plan = total_in (subject_of_plan plan)
