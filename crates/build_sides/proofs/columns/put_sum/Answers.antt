use Rattle.std.proofs.Common.{◌≡◌, ◌+◌, ◌%◌, ◌^◌, ◌<◌, ◌+ℤ◌, length, slice_set, slice_index_or, sym, ap, ◌∙◌, rules, arith, to_z, of_z}
use Rattle.std.specs.Int.{w128, int_wrap}
use Rattle.std.proofs.lemmas.Int.{wraps}
use Rattle.std.proofs.lemmas.List.{get_or_default}
use Rattle.build_sides.specs.Columns.{wrapped_sum}
use Rattle.build_sides.proofs.Puts.{put_known}
use Rattle.build_sides.proofs.columns.put_sum.Goals as goal

pub returns-then-number-len : goal.returns-then-number-len
returns-then-number-len c =
    let items = c.args.sums.now.items in
    let n = c.args.number in
    let lt : n < length items = omega arith in
    let is : c.index.result.now ≡ slice_index_or items n c.args.sum = c.index.ensures ∙ get_or_default items n c.index.result.now c.args.sum lt in
    let wrapped : to_z w128 ((of_z w128 c.index.result.now + of_z w128 c.args.sum) % 2 ^ 128) ≡ int_wrap w128 (c.index.result.now +ℤ c.args.sum) =
    search (rules, wraps) in
    ap (slice_set items n) (wrapped ∙ ap (λ z. int_wrap w128 (z +ℤ c.args.sum)) is) ∙ sym (put_known wrapped_sum items n c.args.sum lt)
