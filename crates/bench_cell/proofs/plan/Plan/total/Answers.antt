use Rattle.std.proofs.Common.{◌≡◌, List, Some, Vec, ap, ◌∙◌, slice_get}
use Rattle.plan_ast.specs.Checks.{query_of}
use Rattle.plan_ast.specs.Stages.{stage_at, tuples_of}
use Rattle.plan_ast.specs.declared.checks.Checked.{Checked}
use Rattle.plan_ast.specs.declared.queries.NamedTable.{NamedTable}
use Rattle.std.proofs.lemmas.Option.{slice_get-map}
use Rattle.std.specs.Global.{Global}
use Rattle.std.specs.Option.{option_map}
use Rattle.std.specs.Arc.{arc_value}
use Rattle.bench_cell.specs.Plans.{checked_of, tables_of}
use Rattle.bench_cell.proofs.PlanLemmas.{total_of-is}
use Rattle.bench_cell.proofs.plan.Plan.total.Goals as goal

pub returns-clause-total : goal.returns-clause-total
returns-clause-total c =
    let plan = c.args.self.now in
    let at : slice_get (checked_of plan) c.args.q ≡ Some (arc_value c.query.result.now) =
    slice_get-map arc_value plan.queries.items c.args.q ∙ ap (option_map arc_value) c.query.ensures.query in
    total_of-is plan c.args.q c.args.stage c.stage_total.result (arc_value c.query.result.now) at (c.requires.stage _ at) c.query.ensures.checked.bounds
    (c.stage_total.ensures.total
    ∙ ap (λ (t : List NamedTable). tuples_of t (query_of c.deref.result.now) (stage_at (query_of c.deref.result.now) c.args.stage))
    (c.as_slice.ensures.value ∙ ap (λ (v : Vec NamedTable Global). v.items) c.deref-2.ensures)
    ∙ ap (λ (k : Checked). tuples_of (tables_of plan) (query_of k) (stage_at (query_of k) c.args.stage)) c.deref.ensures)
