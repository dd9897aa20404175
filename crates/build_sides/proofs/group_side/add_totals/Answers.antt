use Rattle.std.proofs.Common.{◌<◌, length, slice_index_or, ap, ◌∙◌, arith}
use Rattle.std.proofs.lemmas.List.{get_or_default, length-set}
use Rattle.build_sides.specs.Columns.{AddsTotal, totals_of, values_of, with_total}
use Rattle.build_sides.specs.GroupTotals.{nothing_of}
use Rattle.build_sides.specs.declared.columns.Column.{Column}
use Rattle.build_sides.proofs.Places.{done_more, func_count, func_same, rest_less}
use Rattle.build_sides.proofs.group_side.add_totals.Goals as goal

pub add-requires-clause-some : goal.add-requires-clause-some
add-requires-clause-some c =
    let columns = c.args.columns.now.items in
    let others = c.args.others.now in
    let i = c.loop-place.place in
    let count = func_count columns others c.requires.same in
    rw (func_same columns others i c.index_mut.result.now c.index-others-place.result c.requires.same (omega arith) (omega arith)
    (c.index_mut.ensures.value ∙ c.loop-place.invariant.rest i c.index_mut.result.now (omega arith)) c.index-others-place.is)
    c.total.ensures.some

pub loop-place-preserved : goal.loop-place-preserved
loop-place-preserved c =
    let columns = c.args.columns.now.items in
    let others = c.args.others.now in
    let now = c.loop-place.columns.items in
    let i = c.loop-place.place in
    let old = c.index_mut.result.now in
    let other = c.index-others-place.result in
    let count = func_count columns others c.requires.same in
    let within : i < length others = omega arith in
    record {
      count = length-set now i c.add.new.self ∙ c.loop-place.invariant.count;
      done = done_more (λ k d a b. AddsTotal c.args.number c.args.from (slice_index_or others k d) a b) columns now i old c.add.new.self (omega arith)
          c.loop-place.invariant.done c.loop-place.invariant.rest c.index_mut.ensures.value
          (λ d. record {
            is = c.add.ensures ∙ ap (with_total (totals_of old) c.args.number) (c.total.ensures.value
                ∙ ap (λ (x : Column). slice_index_or (values_of x) c.args.from (nothing_of (totals_of x)))
                (c.index-others-place.is ∙ get_or_default others i other d within));
          });
      rest = rest_less columns now i c.add.new.self c.loop-place.invariant.rest;
    }
