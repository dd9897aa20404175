use Rattle.std.proofs.Common.{◌≡◌, Some, ap, ◌∙◌, rules, w64, FitsSigned}
use Rattle.std.specs.Int.{w128}
use Rattle.std.proofs.lemmas.Int.{to_z-of_z}
use Rattle.plan_ast.specs.declared.queries.Func.TheVariants as func
use Rattle.plan_ast.specs.declared.answers.AggValue.TheVariants as agg_value
use Rattle.build_sides.proofs.Puts.{count_put, sum_put, least_put, greatest_put}
use Rattle.build_sides.proofs.columns.Column.add.Goals as goal

pub returns-in-Count-total : goal.returns-in-Count-total
returns-in-Count-total c =
    rw (c.in-Count.is, c.in-Count-total.is) (ap (λ l. record { func = func.Count; values = l })
    (count_put _ _ c.args.number c.in-Count-total.count c.put_count.ensures))

pub returns-in-Sum-total : goal.returns-in-Sum-total
returns-in-Sum-total c =
    let fits : FitsSigned w128 c.in-Sum-total.sum = search rules in
    rw (c.in-Sum.is, c.in-Sum-total.is) (ap (λ l. record { func = func.Sum; values = l })
    (sum_put _ _ c.args.number c.in-Sum-total.sum (rw (to_z-of_z w128 c.in-Sum-total.sum fits) at c.put_sum.ensures)))

pub returns-in-Least-Some : goal.returns-in-Least-Some
returns-in-Least-Some c =
    let fits : FitsSigned w64 c.in-Least-Some.value = search rules in
    let total : c.args.total ≡ agg_value.Least (Some c.in-Least-Some.value) =
    c.in-Least-Some.is ∙ ap (λ o. agg_value.Least o) (rw c.in-Least-Some.is at c.in-Least-Some.field-0-is) in
    rw (c.in-Least.is, total) (ap (λ l. record { func = func.Min; values = l })
    (least_put _ _ c.args.number c.in-Least-Some.value (rw (to_z-of_z w64 c.in-Least-Some.value fits) at c.put_least.ensures)))

pub returns-in-Greatest-Some : goal.returns-in-Greatest-Some
returns-in-Greatest-Some c =
    let fits : FitsSigned w64 c.in-Greatest-Some.value = search rules in
    let total : c.args.total ≡ agg_value.Greatest (Some c.in-Greatest-Some.value) =
    c.in-Greatest-Some.is ∙ ap (λ o. agg_value.Greatest o) (rw c.in-Greatest-Some.is at c.in-Greatest-Some.field-0-is) in
    rw (c.in-Greatest.is, total) (ap (λ l. record { func = func.Max; values = l })
    (greatest_put _ _ c.args.number c.in-Greatest-Some.value (rw (to_z-of_z w64 c.in-Greatest-Some.value fits) at c.put_greatest.ensures)))
