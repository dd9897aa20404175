-- The queries of a plan arrive in time, so that it may be run.
use Rattle.std.proofs.Common.{◌≡◌, ◌≤◌, ◌<◌, ◌+◌, ◌/◌, ◌%◌, ℕ, zero, suc, true, false, List, [], ◌∷◌, Option, None, Some, ap, refl, sym, subst}
use Rattle.std.proofs.Common.{arith, Err, IfOk, Ok, Result, ◌∙◌}
use Rattle.std.proofs.lemmas.Bool.Decides.{nat_tests}
use Rattle.std.proofs.lemmas.List.{length-map}
use Rattle.std.proofs.Math.ListN.{get_or-map}
use Rattle.std.specs.Option.{option_map_or}
use Rattle.std.specs.Arc.{arc_value}
use Rattle.std.specs.Global.{Global}
use Rattle.std.specs.declared.sync.Arc.{Arc}
use Rattle.std.specs.Prelude.{All, if◌then◌else◌, length, map, nat_lt, slice_get}
use Rattle.plan_ast.specs.Checks.{IsCheckedFor, query_of}
use Rattle.plan_ast.specs.Stages.{stages_of}
use Rattle.plan_ast.specs.Subject.{Subject}
use Rattle.plan_ast.specs.declared.checks.Checked.{Checked}
use Rattle.plan_ast.specs.declared.queries.NamedTable.{NamedTable}
use Rattle.plan_ast.specs.declared.queries.Query.{Query}
use Rattle.script_json.specs.Format.{first_early}
use Rattle.slot_history.specs.Sets.{sum_below}
use Rattle.slot_history.specs.declared.shape.Shape.{Shape}
use Rattle.slot_history.specs.declared.shape.TheConstants.{MOST_SLOTS, MOST_WORKERS}
use Rattle.turn_model.specs.Measure.{ArriveInTime}
use Rattle.bench_cell.specs.Plans.{checked_of, subject_of_plan}
use Rattle.bench_cell.specs.declared.plan.Plan.{Plan}
use Rattle.report_text.specs.declared.report.Report.{Report}
use Rattle.slot_history.specs.declared.act.Entry.{Entry}
use Rattle.pool_run.specs.Runs.{asked_of, Course, MayRun, order_of, RanBy, ReportsBy}
use Rattle.worker_machine.specs.Loads.{load_of}
use Rattle.sched_tool.specs.Requests.{IsOrder}
use Rattle.sched_tool.specs.Runs.{asked_over}

-- what holds of each query holds of each shared query
pub all_shared : (tables : List NamedTable) (queries : List Checked) (shared : List (Arc Checked Global)) → map arc_value shared ≡ queries
    → All (IsCheckedFor tables) queries → All (λ query. IsCheckedFor tables (arc_value query)) shared
all_shared tables queries shared is all = λ k d within.
    let of_shared = subst (All (IsCheckedFor tables)) (sym is) all in
    subst (IsCheckedFor tables) (get_or-map arc_value shared k d) (of_shared k (arc_value d) (omega (arith, length-map shared arc_value, within)))

-- ---- queries that arrive in time

-- a sum, with its first number apart
sum_first : (n : ℕ) (f : ℕ → ℕ) → sum_below (suc n) f ≡ f 0 + sum_below n (λ k. f (suc k))
sum_first zero f = omega arith
sum_first (suc n) f = omega (arith, sum_first n f)

-- a number of the query at a place
abbrev number_in : List Query → (Query → ℕ) → ℕ → ℕ
number_in queries number q = option_map_or number (slice_get queries q) 0

not_early : (n before : ℕ) (query : Query) (queries : List Query) → first_early n before (query ∷ queries) ≡ None
    → (query.after ≤ before) × (first_early (n + 1) (before + stages_of query) queries ≡ None)
not_early n before query queries none =
    elim (nat_lt before query.after) as (λ test. nat_lt before query.after ≡ test
    → (if test then Some n else first_early (n + 1) (before + stages_of query) queries) ≡ None
    → (query.after ≤ before) × (first_early (n + 1) (before + stages_of query) queries ≡ None)) [
      | true ↦ λ is some. absurd cc
      | false ↦ λ is rest. (grind (arith, nat_tests), rest)
    ] refl none

none_early : (queries : List Query) (n before : ℕ) → first_early n before queries ≡ None → (q : ℕ)
    → number_in queries (λ query. query.after) q ≤ before + sum_below q (number_in queries stages_of)
none_early [] n before none q = omega arith
none_early (query ∷ queries) n before none zero = omega (arith, (not_early n before query queries none).0)
none_early (query ∷ queries) n before none (suc q) =
    let rest = none_early queries (n + 1) (before + stages_of query) (not_early n before query queries none).1 q in
    omega (arith, rest, sum_first q (number_in (query ∷ queries) stages_of))

all_in_time : (queries : List Query) → first_early 0 0 queries ≡ None → (q : ℕ)
    → number_in queries (λ query. query.after) q ≤ sum_below q (number_in queries stages_of)
all_in_time queries none q = omega (arith, none_early queries 0 0 none q)

-- each query of such a plan arrives at the latest once all task sets of those before it are done
in_time : (plan : Plan) (d : Shape) → first_early 0 0 (subject_of_plan plan).queries ≡ None → ArriveInTime d (load_of plan)
in_time plan d none = λ q known. all_in_time (subject_of_plan plan).queries none q

-- ---- the run that is asked for

-- such a plan may be run by so many workers over so many slots, on such a course
pub may_run : (plan : Plan) (workers slots : ℕ) (course : Course) → (1 ≤ workers) × (workers ≤ MOST_WORKERS) → (1 ≤ slots) × (slots ≤ MOST_SLOTS)
    → IsOrder workers (order_of course) → first_early 0 0 (subject_of_plan plan).queries ≡ None → MayRun (asked_of plan workers slots course)
may_run plan workers slots course some wide order none = record {
  workers = some;
  slots = wide;
  few = order.1;
  order = order.0;
  in_time = in_time plan (asked_of plan workers slots course).shape none;
}

-- a run of a plan is one of the subject that it holds
pub asked_is : (plan : Plan) (workers slots : ℕ) (course : Course)
    → asked_of plan workers slots course ≡ asked_over (subject_of_plan plan) workers slots course
asked_is plan workers slots course =
    let count : length plan.queries.items ≡ length (map query_of (checked_of plan)) =
    sym (length-map (checked_of plan) query_of ∙ length-map plan.queries.items arc_value) in
    λ i. record {
      shape = record { workers = workers; slots = slots; queries = count i };
      load = load_of plan;
      course = course;
    }

-- a report of a run of a plan is one of the subject that it holds
pub reports-of : {times : ℕ → ℕ → ℕ → Type 0} (plan : Plan) (workers slots : ℕ) (course : Course) {report : Report}
    → ReportsBy times (asked_of plan workers slots course) report → ReportsBy times (asked_over (subject_of_plan plan) workers slots course) report
reports-of {times} plan workers slots course {report} = subst (λ asked. ReportsBy times asked report) (asked_is plan workers slots course)

pub ran-of : {times : ℕ → ℕ → ℕ → Type 0} (plan : Plan) (workers slots : ℕ) (course : Course) {report : Report} {history : List Entry}
    {elapsed : List (List ℕ)} → RanBy times (asked_of plan workers slots course) report history elapsed
    → RanBy times (asked_over (subject_of_plan plan) workers slots course) report history elapsed
ran-of {times} plan workers slots course {report} {history} {elapsed} =
    subst (λ asked. RanBy times asked report history elapsed) (asked_is plan workers slots course)

pub if-ok : {A E : Type 0} {P Q : A → Type 0} (r : Result A E) → ((x : A) → P x → Q x) → IfOk r P → IfOk r Q
if-ok (Ok x) goes p = goes x p
if-ok (Err e) goes p = tt

-- ---- numbers of a plan

pub queries_are : (plan : Plan) (subject : Subject) → subject_of_plan plan ≡ subject → length plan.queries.items ≡ length subject.queries
queries_are plan subject is =
    sym (length-map (checked_of plan) query_of ∙ length-map plan.queries.items arc_value)
    ∙ ap (λ (s : Subject). length s.queries) is
