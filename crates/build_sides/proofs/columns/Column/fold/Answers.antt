use Rattle.std.proofs.Common.{◌≡◌, ◌+ℤ◌, pos, ap, arith, w64, to_z, of_z}
use Rattle.std.specs.Int.{w128}
use Rattle.std.proofs.lemmas.Int.{ints, to_z-of_z}
use Rattle.plan_ast.specs.declared.queries.Func.TheVariants as func
use Rattle.build_sides.proofs.Puts.{count_put, sum_put, least_put, greatest_put}
use Rattle.build_sides.proofs.columns.Column.fold.Goals as goal

pub returns-in-Count : goal.returns-in-Count
returns-in-Count c =
    rw (c.in-Count.is) (ap (λ l. record { func = func.Count; values = l }) (count_put _ _ c.args.number 1 c.put_count.ensures))

pub returns-in-Sum : goal.returns-in-Sum
returns-in-Sum c =
    let is : to_z w128 (of_z w128 c.from.result) ≡ pos 0 +ℤ c.args.value = omega (arith, ints) in
    rw (c.in-Sum.is) (ap (λ l. record { func = func.Sum; values = l }) (sum_put _ _ c.args.number (pos 0 +ℤ c.args.value) (rw is at c.put_sum.ensures)))

pub returns-in-Least : goal.returns-in-Least
returns-in-Least c =
    rw (c.in-Least.is) (ap (λ l. record { func = func.Min; values = l })
    (least_put _ _ c.args.number c.args.value (rw (to_z-of_z w64 c.args.value c.ranges.value) at c.put_least.ensures)))

pub returns-in-Greatest : goal.returns-in-Greatest
returns-in-Greatest c =
    rw (c.in-Greatest.is) (ap (λ l. record { func = func.Max; values = l })
    (greatest_put _ _ c.args.number c.args.value (rw (to_z-of_z w64 c.args.value c.ranges.value) at c.put_greatest.ensures)))
