-- The work of a run, as far as its workers need to know it.
use Rattle.std.specs.Prelude.{ℕ, ◌/◌, ◌%◌, List, Option, Some, None, if◌then◌else◌, nat_lt}
use Rattle.std.specs.Prelude.{slice_get}
use Rattle.std.specs.Option.{option_and_then, option_map, option_map_or}
use Rattle.slot_history.specs.declared.shape.Shape.{Shape}
use Rattle.slot_history.specs.declared.shape.TheConstants.{STAGES}
use Rattle.slot_history.specs.Sets.{sum_below}
use Rattle.plan_ast.specs.Answer.{answer_of}
use Rattle.plan_ast.specs.Stages.{stage_at, stages_of, tuples_of}
use Rattle.plan_ast.specs.Subject.{Subject}
use Rattle.plan_ast.specs.declared.answers.Answer.{Answer}
use Rattle.plan_ast.specs.declared.queries.NamedTable.{NamedTable}
use Rattle.plan_ast.specs.declared.queries.Query.{Query}

-- Queries and task sets are given by their numbers.
pub record Workload : Type 0 where
  -- how many task sets are done before a query arrives
  pub after : ℕ → ℕ
  pub weight : ℕ → ℕ
  -- the nanoseconds that a meter may count for a tuple of a query
  pub cost : ℕ → ℕ
  pub stages : ℕ → ℕ
  -- the tuples of a task set, if there is such a task set
  pub total : ℕ → Option ℕ
  -- the one-thread answer of a query
  pub answer : ℕ → Option Answer

-- the number of task sets
abbrev pub sets_of : Shape → Workload → ℕ
sets_of d load = sum_below d.queries load.stages

-- ---- the work of a subject

-- a number of a query, by the query's number; the other number if there is no such query
abbrev pub number_at : Subject → (Query → ℕ) → ℕ → ℕ → ℕ
number_at subject number other q = option_map_or number (slice_get subject.queries q) other

-- the tuples of a stage of a query, if the query has this stage
abbrev pub total_at : List NamedTable → ℕ → Query → Option ℕ
total_at tables stage query = if nat_lt stage (stages_of query)
    then Some (tuples_of tables query (stage_at query stage)) else None

-- the tuples of the task set of an id, if there is such a task set
abbrev pub total_in : Subject → ℕ → Option ℕ
total_in subject id = option_and_then (total_at subject.tables (id % STAGES))
    (slice_get subject.queries (id / STAGES))

-- the work of a subject, as its workers see it
abbrev pub work_of : Subject → Workload
work_of subject = record {
  after = number_at subject (λ query. query.after) 0;
  weight = number_at subject (λ query. query.weight) 1;
  cost = number_at subject (λ query. query.cost) 1;
  stages = number_at subject stages_of 0;
  total = total_in subject;
  answer = λ q. option_map (answer_of subject.tables) (slice_get subject.queries q);
}
