-- The work of a plan.
use Rattle.std.proofs.Common.{◌≡◌, ℕ, ◌<◌, ◌≤◌, List, length, slice_get, Some, sym, ap, ◌∙◌, subst, arith, inl, inr}
use Rattle.std.specs.Option.{option_map, option_map_or}
use Rattle.std.specs.Arc.{arc_value}
use Rattle.std.proofs.lemmas.List.{length-map}
use Rattle.std.proofs.lemmas.List.Elements.{All-get_or}
use Rattle.std.proofs.lemmas.Option.{slice_get_cases, slice_get-map, slice_get_past}
use Rattle.slot_history.specs.declared.shape.TheConstants.{STAGES}
use Rattle.plan_ast.specs.Checks.{IsCheckedFor, query_of}
use Rattle.plan_ast.specs.Stages.{merges_of, stages_of}
use Rattle.plan_ast.specs.declared.checks.Checked.{Checked}
use Rattle.plan_ast.specs.declared.queries.Output.{Output}
use Rattle.plan_ast.specs.declared.queries.Output.TheVariants.{Rows, Totals, Groups}
use Rattle.run_laws.specs.Ends.{IsWork}
use Rattle.bench_cell.specs.declared.plan.Plan.{Plan}
use Rattle.bench_cell.specs.Plans.{checked_of, stages_in, subject_of_plan, tables_of}
use Rattle.bench_cell.proofs.PlanLemmas.{query-at}
use Rattle.worker_machine.specs.Loads.{load_of}
use Rattle.one_thread.specs.Tables.{TableStory}
use Rattle.pool_run.specs.Scenes.{new_table}
use Rattle.slot_history.specs.declared.act.Entry.{Entry}
use Rattle.report_text.specs.declared.report.Report.{Report}
use Rattle.pool_run.specs.Runs.{AreWorkersOf, Course, MayRun, RanBy, asked_in, asked_of, order_of}

few-merges : (o : Output) → merges_of o ≤ 1
few-merges (Rows columns) = omega arith
few-merges (Totals aggs) = omega arith
few-merges (Groups by aggs) = omega arith

-- a query that there is
checked-at : (plan : Plan) (q : ℕ) → q < length plan.queries.items → (c : Checked) × (slice_get (checked_of plan) q ≡ Some c) × IsCheckedFor (tables_of plan) c
checked-at plan q low = elim (slice_get_cases plan.queries.items q).1 [
  | inl p ↦ (
    arc_value p.0,
    slice_get-map arc_value plan.queries.items q ∙ ap (option_map arc_value) p.2,
    subst (λ query. IsCheckedFor (tables_of plan) (arc_value query)) p.3
        (All-get_or (λ query. IsCheckedFor (tables_of plan) (arc_value query)) plan.queries.items q p.0 low plan.checked),
  )
  | inr p ↦ absurd (omega arith)
]

stages-are : (plan : Plan) (q : ℕ) (c : Checked) → slice_get (checked_of plan) q ≡ Some c → (load_of plan).stages q ≡ stages_in c
stages-are plan q c here = ap (λ o. option_map_or stages_of o 0) (query-at plan q c here)

-- what may be asked of a plan is work of a run that ends
pub plan-works : (plan : Plan) (workers slots : ℕ) (course : Course) → let asked = asked_of plan workers slots course in
    MayRun asked → IsWork asked.shape asked.load
plan-works plan workers slots course may = record {
  shape = record { slots = may.slots; workers = may.workers; queries = plan.few };
  some = λ q low. let c = checked-at plan q low in subst (λ n. 0 < n) (sym (stages-are plan q c.0 c.1)) (omega arith);
  few = λ q low.
      let c = checked-at plan q low in
      let joins : length (query_of c.0).joins ≤ 2 = c.2.bounds.joins in
      let merges : merges_of (query_of c.0).output ≤ 1 = few-merges (query_of c.0).output in
      subst (λ n. n ≤ STAGES) (sym (stages-are plan q c.0 c.1)) (omega arith);
  in_time = may.in_time;
}

-- the same over the new table of the plan, whose workers are those of the order
module _ (plan : Plan) (workers slots : ℕ) (course : Course) {table : TableStory Plan} (new : table ≡ new_table plan workers slots)
    (may : MayRun (asked_of plan workers slots course)) where
  pub table-works : IsWork table.shape (load_of table.subject)
  table-works = subst (λ (t : TableStory Plan). IsWork t.shape (load_of t.subject)) (sym new) (plan-works plan workers slots course may)

  pub of-workers : AreWorkersOf table.shape (order_of course)
  of-workers = subst (λ (t : TableStory Plan). AreWorkersOf t.shape (order_of course)) (sym new) may.order

  -- what ran over that table ran as was asked for
  pub ran-as-asked : {may_take : ℕ → ℕ → ℕ → Type 0} {report : Report} {history : List Entry} {elapsed : List (List ℕ)}
      → RanBy may_take (asked_in table course) report history elapsed → RanBy may_take (asked_of plan workers slots course) report history elapsed
  ran-as-asked {may_take} {report} {history} {elapsed} ran =
      subst (λ (t : TableStory Plan). RanBy may_take (asked_in t course) report history elapsed) new ran

-- past the last query there are none
pub none-past : (plan : Plan) (q : ℕ) → length plan.queries.items ≤ q → (load_of plan).stages q ≡ 0
none-past plan q past = ap (λ o. option_map_or stages_of o 0)
    (slice_get_past (subject_of_plan plan).queries q
    (subst (λ n. n ≤ q) (sym (length-map (checked_of plan) query_of ∙ length-map plan.queries.items arc_value)) past))
