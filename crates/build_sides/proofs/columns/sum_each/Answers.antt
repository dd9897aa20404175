use Rattle.std.proofs.Common.{◌≡◌, ℤ, pos, ◌+◌, ◌%◌, ◌^◌, ◌<◌, ◌+ℤ◌, length, slice_set, slice_index_or, ap, ◌∙◌, rules, arith, to_z, of_z}
use Rattle.std.specs.Int.{w128, int_wrap}
use Rattle.std.proofs.lemmas.Int.{ints, wraps}
use Rattle.std.proofs.lemmas.List.{get_or_default, length-set}
use Rattle.build_sides.specs.Columns.{value_by, wrapped_sum}
use Rattle.build_sides.proofs.Puts.{puts_more}
use Rattle.build_sides.proofs.columns.sum_each.Goals as goal

pub loop-place-preserved : goal.loop-place-preserved
loop-place-preserved c =
    let numbers = c.args.numbers.now in
    let sums = c.loop-place.sums in
    let i = c.loop-place.place in
    let n = slice_index_or numbers i 0 in
    let x = value_by c.args.column.now c.args.rows.now i in
    let old : ℤ = slice_index_or sums n (pos 0) in
    let known : n < length c.args.sums.now = c.requires.known i 0 c.loop-place-test.true in
    let lt : n < length sums = omega (arith, c.loop-place.invariant.same) in
    let value : c.from.result ≡ x = omega (arith, ints) in
    let wrapped : to_z w128 ((of_z w128 old + of_z w128 c.from.result) % 2 ^ 128) ≡ int_wrap w128 (old +ℤ c.from.result) = search (rules, wraps) in
    record {
      same = length-set sums n _ ∙ c.loop-place.invariant.same;
      is = ap (slice_set sums n) (wrapped ∙ ap (λ z. int_wrap w128 (z +ℤ c.from.result)) (get_or_default sums n (pos 0) x lt)
          ∙ ap (λ z. int_wrap w128 (slice_index_or sums n x +ℤ z)) value)
          ∙ puts_more wrapped_sum c.args.sums.now sums numbers (value_by c.args.column.now c.args.rows.now) i c.loop-place.invariant.is lt;
    }
