use Rattle.std.proofs.Common.{◌≡◌, ◌*◌, ◌≤◌, take, sum_by}
use Rattle.std.specs.Arc.{arc_value}
use Rattle.bench_cell.specs.Plans.{stages_in}
use Rattle.bench_cell.proofs.plan.Plan.sets.Given as goal

abbrev pub invariant-loop-query : goal.invariant-loop-query
invariant-loop-query l =
    (l.sets ≡ sum_by (λ query. stages_in (arc_value query)) (take l.query-index l.query-items)) × (l.sets ≤ 4 * l.query-index)
