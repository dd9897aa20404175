use Rattle.std.proofs.Common.{◌≡◌, pos, ◌<◌, [], ◌∷◌, add-one, length, slice_index, ap, ◌∙◌, refl, arith}
use Rattle.std.proofs.lemmas.List.{with_items_is}
use Rattle.plan_ast.specs.Answer.{aggregate}
use Rattle.plan_ast.specs.declared.queries.Func.TheVariants as func
use Rattle.plan_ast.specs.declared.answers.AggValue.TheVariants as agg_value
use Rattle.build_sides.specs.Columns.{count_sum, totals_of, values_of, with_total, wrapped_agg_sum}
use Rattle.build_sides.specs.GroupTotals.{Totals}
use Rattle.build_sides.proofs.Puts.{column_puts, length-puts}
use Rattle.build_sides.proofs.columns.Column.fold_zeros.Goals as goal

pub returns-in-Count : goal.returns-in-Count
returns-in-Count c = record {
  is = rw c.in-Count.is (column_puts (λ x. agg_value.Count x) count_sum (λ a b. refl) func.Count _ c.count_each.new.counts _ c.args.numbers.now (λ _. 1)
      (with_items_is c.in-Count.counts c.count_each.new.counts (omega arith)) (rw c.as_mut_slice.ensures.value at c.count_each.ensures));
}

pub fold-requires : goal.fold-requires
fold-requires c =
    let numbers = c.args.numbers.now in
    let i = c.loop-number.number-index in
    let old = totals_of c.args.self.now in
    let same : length (values_of c.loop-number.self) ≡ length (values_of c.args.self.now) =
    ap (λ (t : Totals). length t.values) c.loop-number.invariant.is
    ∙ length-puts wrapped_agg_sum old.values numbers (λ _. aggregate old.func (pos 0 ∷ [])) i
    (λ k lt. c.requires k 0 (omega (arith, c.loop-number-test.true))) in
    let here : slice_index numbers i < length (values_of c.args.self.now) = c.requires i 0 c.loop-number-test.true in
    λ le. absurd (omega arith)

pub loop-number-preserved : goal.loop-number-preserved
loop-number-preserved c =
    let n = slice_index c.args.numbers.now c.loop-number.number-index in
    record {
      is = rw add-one (c.fold.ensures ∙ ap (λ (t : Totals). with_total t n (aggregate t.func (pos 0 ∷ []))) c.loop-number.invariant.is);
    }
