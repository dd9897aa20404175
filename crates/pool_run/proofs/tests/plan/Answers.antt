use Rattle.std.proofs.Common.{◌≡◌, ℕ, ◌≤◌, All, List, map, slice_get, sym, ap, ◌∙◌, subst, inl, inr}
use Rattle.std.specs.Arc.{arc_value}
use Rattle.std.specs.Global.{Global}
use Rattle.std.specs.declared.sync.Arc.{Arc}
use Rattle.std.specs.Option.{option_map, option_map_or}
use Rattle.std.proofs.lemmas.List.{length-map}
use Rattle.std.proofs.lemmas.List.Elements.{All-get_or, All-push}
use Rattle.std.proofs.lemmas.Option.{slice_get_cases, slice_get-map, slice_get_past, slice_get_within}
use Rattle.plan_ast.specs.Checks.{IsCheckedFor, query_of}
use Rattle.plan_ast.specs.declared.checks.Checked.{Checked}
use Rattle.plan_ast.specs.declared.queries.Query.{Query}
use Rattle.bench_cell.specs.declared.plan.Plan.{Plan}
use Rattle.worker_machine.specs.Loads.{load_of}
use Rattle.pool_run.proofs.tests.plan.Goals as goal

-- the query arrives at once
abbrev IsEarly : Arc Checked Global → Type 0
IsEarly query = (query_of (arc_value query)).after ≡ 0

early-at : (queries : List (Arc Checked Global)) (q : ℕ) → All IsEarly queries
    → option_map_or (λ (query : Query). query.after) (slice_get (map query_of (map arc_value queries)) q) 0 ≡ 0
early-at queries q all = elim (slice_get_cases queries q).1 [
  | inl p ↦ ap (λ o. option_map_or (λ (query : Query). query.after) o 0) (slice_get-map query_of (map arc_value queries) q
      ∙ ap (option_map query_of) (slice_get-map arc_value queries q ∙ ap (option_map arc_value) p.2))
      ∙ subst IsEarly p.3 (All-get_or IsEarly queries q p.0 (slice_get_within queries q p.0 p.2) all)
  | inr p ↦ ap (λ o. option_map_or (λ (query : Query). query.after) o 0)
      (slice_get_past (map query_of (map arc_value queries)) q
      (subst (λ n. n ≤ q) (sym (length-map (map arc_value queries) query_of ∙ length-map queries arc_value)) p.0))
]

pub loop-query-preserved : goal.loop-query-preserved
loop-query-preserved g c =
    let fits = λ (query : Arc Checked Global). IsCheckedFor (arc_value c.in_ok-tables-2.tables).items (arc_value query) in
    let before = c.loop-query.all.items in
    let one = c.in_ok-checked.field-0 in
    record {
      early = subst (All IsEarly) (sym c.in_ok-push.ensures.items) (All-push IsEarly before one c.loop-query.invariant.early c.in_ok-checked.ensures.early);
      checked = subst (All fits) (sym c.in_ok-push.ensures.items) (All-push fits before one c.loop-query.invariant.checked c.in_ok-checked.ensures.placed);
    }

pub returns : goal.returns
returns g c = λ q.
    subst (λ (p : Plan). (load_of p).after q ≡ 0) (sym c.in_ok-new.ensures.ok) (early-at c.loop-query.all.items q c.loop-query.invariant.early)
