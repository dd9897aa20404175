use Rattle.std.proofs.Common.{◌≡◌, ◌<◌, pos, length, slice_set, slice_index_or, ap, ◌∙◌, rules, arith, to_z, of_z}
use Rattle.std.specs.Int.{int_min, w64}
use Rattle.std.proofs.lemmas.Int.{ints}
use Rattle.std.proofs.lemmas.List.{get_or_default, length-set}
use Rattle.build_sides.specs.Columns.{value_by}
use Rattle.build_sides.proofs.Puts.{puts_more}
use Rattle.build_sides.proofs.columns.least_each.Goals as goal

pub loop-place-preserved : goal.loop-place-preserved
loop-place-preserved c =
    let numbers = c.args.numbers.now in
    let values = c.loop-place.values in
    let i = c.loop-place.place in
    let n = slice_index_or numbers i 0 in
    let x = value_by c.args.column.now c.args.rows.now i in
    let known : n < length c.args.values.now = c.requires.known i 0 c.loop-place-test.true in
    let lt : n < length values = omega (arith, c.loop-place.invariant.same) in
    let old = slice_index_or values n (pos 0) in
    let out : to_z w64 (of_z w64 c.min.result) ≡ c.min.result = search (rules, ints) in
    let one : to_z w64 (of_z w64 old) ≡ old = search (rules, ints) in
    let other : to_z w64 (of_z w64 x) ≡ x = search (rules, ints) in
    let most : c.min.result ≡ int_min (slice_index_or values n x) x =
    c.min.ensures.value
    ∙ ap (λ z. int_min z (to_z w64 (of_z w64 x))) (one ∙ get_or_default values n (pos 0) x lt)
    ∙ ap (int_min (slice_index_or values n x)) other in
    record {
      same = length-set values n _ ∙ c.loop-place.invariant.same;
      is = ap (slice_set values n) (out ∙ most)
          ∙ puts_more int_min c.args.values.now values numbers (value_by c.args.column.now c.args.rows.now) i c.loop-place.invariant.is lt;
    }
