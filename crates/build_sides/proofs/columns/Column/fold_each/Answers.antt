use Rattle.std.proofs.Common.{◌≡◌, ℕ, ℤ, pos, Some, ◌+ℤ◌, length, map, ap, ◌∙◌, refl, arith}
use Rattle.std.proofs.lemmas.Int.{ints}
use Rattle.std.proofs.lemmas.List.{with_items_is}
use Rattle.std.specs.Int.{int_max, int_min}
use Rattle.plan_ast.specs.declared.queries.Func.TheVariants as func
use Rattle.plan_ast.specs.declared.answers.AggValue.{AggValue}
use Rattle.plan_ast.specs.declared.answers.AggValue.TheVariants as agg_value
use Rattle.build_sides.specs.Columns.{count_sum, puts, value_by, wrapped_agg_sum, wrapped_sum}
use Rattle.build_sides.proofs.Puts.{column_puts, totals}
use Rattle.build_sides.proofs.columns.Column.fold_each.Goals as goal

-- a sum of one value
sum_of_one : (z : ℤ) → z ≡ pos 0 +ℤ z
sum_of_one z = omega (arith, ints)

pub returns-in-Count : goal.returns-in-Count
returns-in-Count c = record {
  is = rw c.in-Count.is (column_puts (λ x. agg_value.Count x) count_sum (λ a b. refl) func.Count _ c.count_each.new.counts _ c.args.numbers.now (λ _. 1)
      (with_items_is c.in-Count.counts c.count_each.new.counts (omega arith)) (rw c.as_mut_slice.ensures.value at c.count_each.ensures));
}

pub returns-in-Sum : goal.returns-in-Sum
returns-in-Sum c =
    let numbers = c.args.numbers.now in
    let items = map (λ x. agg_value.Sum x) c.in-Sum.sums.items in
    let value = value_by c.args.column.now c.args.rows.now in
    record {
      is = rw c.in-Sum.is (column_puts (λ x. agg_value.Sum x) wrapped_sum (λ a b. refl) func.Sum c.in-Sum.sums.items c.sum_each.new.sums _ numbers value
          (with_items_is c.in-Sum.sums c.sum_each.new.sums (omega arith)) (rw c.as_mut_slice-in-Sum.ensures.value at c.sum_each.ensures)
          ∙ ap (λ (f : ℕ → AggValue). totals func.Sum (puts wrapped_agg_sum items numbers f (length numbers)))
          (λ j k. agg_value.Sum (sum_of_one (value k) j)));
    }

pub returns-in-Least : goal.returns-in-Least
returns-in-Least c = record {
  is = rw c.in-Least.is (column_puts (λ x. agg_value.Least (Some x)) int_min (λ a b. refl) func.Min _ c.least_each.new.values _ c.args.numbers.now
      (value_by c.args.column.now c.args.rows.now) (with_items_is c.in-Least.values c.least_each.new.values (omega arith))
      (rw c.as_mut_slice-in-Least.ensures.value at c.least_each.ensures));
}

pub returns-in-Greatest : goal.returns-in-Greatest
returns-in-Greatest c = record {
  is = rw c.in-Greatest.is (column_puts (λ x. agg_value.Greatest (Some x)) int_max (λ a b. refl) func.Max _ c.greatest_each.new.values _ c.args.numbers.now
      (value_by c.args.column.now c.args.rows.now) (with_items_is c.in-Greatest.values c.greatest_each.new.values (omega arith))
      (rw c.as_mut_slice-in-Greatest.ensures.value at c.greatest_each.ensures));
}
