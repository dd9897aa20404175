use Rattle.std.proofs.Common.{ℕ, ◌<◌, None, Option, length, slice_index, sym, ◌∙◌, subst, below_more, arith, w64, FitsSigned}
use Rattle.std.proofs.lemmas.List.{get_or-map, length-set}
use Rattle.plan_ast.specs.declared.places.AggAt.{AggAt}
use Rattle.plan_ast.specs.declared.places.ColumnAt.{ColumnAt}
use Rattle.build_sides.specs.Columns.{FoldsValues}
use Rattle.build_sides.specs.FoldedRows.{column_in, folded_value}
use Rattle.build_sides.proofs.Places.{done_more, rest_less}
use Rattle.build_sides.proofs.group_side.fold_columns.Goals as goal

pub loop-place-preserved : goal.loop-place-preserved
loop-place-preserved c =
    let table = c.args.table.now in
    let aggs = c.args.aggs.now in
    let rows = c.args.rows.now in
    let numbers = c.args.numbers.now in
    let columns = c.args.columns.now.items in
    let i = c.loop-place.place in
    let before = c.loop-place.invariant in
    let at = sym (get_or-map (λ (agg : AggAt). agg.column) aggs i _ None (omega arith)) in
    record {
      count = length-set c.loop-place.columns.items i c.fold_column.new.column ∙ before.count;
      done = done_more (λ a d x y. FoldsValues numbers (λ k. folded_value table (slice_index rows k) (column_in aggs a)) x y) columns
          c.loop-place.columns.items i c.index_mut.result.now c.fold_column.new.column (omega arith) before.done before.rest c.index_mut.ensures.value
          (λ d. subst (λ (o : Option ColumnAt). FoldsValues numbers (λ k. folded_value table (slice_index rows k) o) c.index_mut.result.now
          c.fold_column.new.column) at c.fold_column.ensures.folds);
      rest = rest_less columns c.loop-place.columns.items i c.fold_column.new.column before.rest;
      fits = below_more (λ a. (k : ℕ) → k < length rows → FitsSigned w64 (folded_value table (slice_index rows k) (column_in aggs a))) i before.fits
          (λ k lt. subst (λ (o : Option ColumnAt). FitsSigned w64 (folded_value table (slice_index rows k) o)) at (c.fold_column.ensures.fits k lt));
    }
