use Rattle.std.proofs.Common.{◌≡◌, pos, length, slice_index_or, inl, inr, sym, ◌∙◌, below_more, rules, arith, w64, FitsSigned}
use Rattle.std.proofs.lemmas.Bool.{cases_lt}
use Rattle.std.proofs.lemmas.Int.{to_z-of_z}
use Rattle.std.proofs.lemmas.List.{get_or-map, get_or_past, length-map, length-set}
use Rattle.plan_ast.specs.declared.places.AggAt.{AggAt}
use Rattle.build_sides.specs.Columns.{FoldsValue}
use Rattle.build_sides.specs.FoldedRows.{folded_value, values_by}
use Rattle.build_sides.proofs.Places.{done_more, rest_less}
use Rattle.build_sides.proofs.group_side.fold_table_row.Goals as goal

pub loop-place-preserved : goal.loop-place-preserved
loop-place-preserved c =
    let columns = c.args.columns.now.items in
    let table = c.args.table.now in
    let aggs = c.args.aggs.now in
    let values = values_by table aggs c.args.row in
    let i = c.loop-place.place in
    let is : slice_index_or values i (pos 0) ≡ c.value_at.result =
    get_or-map (λ (agg : AggAt). folded_value table c.args.row agg.column) aggs i _ (pos 0) (omega arith) ∙ sym c.value_at.ensures in
    let here : FitsSigned w64 c.value_at.result = search rules in
    let fits : FitsSigned w64 (slice_index_or values i (pos 0)) = rw is here in
    record {
      count = length-set c.loop-place.columns.items i c.fold.new.self ∙ c.loop-place.invariant.count;
      done = done_more (λ k d a b. FoldsValue c.args.number (slice_index_or values k (pos 0)) a b) columns c.loop-place.columns.items i
          c.index_mut.result.now c.fold.new.self (omega arith)
          c.loop-place.invariant.done c.loop-place.invariant.rest c.index_mut.ensures.value
          (λ d. rw is (rw (to_z-of_z w64 c.value_at.result here) at c.fold.ensures));
      rest = rest_less columns c.loop-place.columns.items i c.fold.new.self c.loop-place.invariant.rest;
      fits = below_more (λ k. FitsSigned w64 (slice_index_or values k (pos 0))) i c.loop-place.invariant.fits fits;
    }

pub returns-clause-fits : goal.returns-clause-fits
returns-clause-fits c = λ place.
    let values = values_by c.args.table.now c.args.aggs.now c.args.row in
    elim (cases_lt place (length c.args.aggs.now)) [
      | inl lt ↦ c.loop-place.invariant.fits place (omega arith)
      | inr le ↦ rw (get_or_past values place (pos 0) (omega (
        arith,
        length-map c.args.aggs.now
            (λ (agg : AggAt). folded_value c.args.table.now c.args.row agg.column),
      ))) (search rules)
    ]
