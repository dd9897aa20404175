use Rattle.std.proofs.Common.{pos, length, slice_index_or, inl, inr, ◌∙◌, below_more, rules, arith, w64, FitsSigned}
use Rattle.std.proofs.lemmas.Bool.{cases_lt}
use Rattle.std.proofs.lemmas.Int.{to_z-of_z}
use Rattle.std.proofs.lemmas.List.{get_or_past, length-set}
use Rattle.build_sides.specs.Columns.{FoldsValue}
use Rattle.build_sides.proofs.Places.{done_more, rest_less}
use Rattle.build_sides.proofs.group_side.fold_values.Goals as goal

pub loop-place-preserved : goal.loop-place-preserved
loop-place-preserved c =
    let columns = c.args.columns.now.items in
    let values = c.args.values.now in
    let i = c.loop-place.place in
    let fits : FitsSigned w64 (slice_index_or c.args.values.now c.loop-place.place (pos 0)) = search rules in
    record {
      count = length-set c.loop-place.columns.items i c.fold.new.self ∙ c.loop-place.invariant.count;
      done = done_more (λ k d a b. FoldsValue c.args.number (slice_index_or values k (pos 0)) a b) columns c.loop-place.columns.items i
          c.index_mut.result.now c.fold.new.self (omega arith)
          c.loop-place.invariant.done c.loop-place.invariant.rest c.index_mut.ensures.value
          (λ d. rw (to_z-of_z w64 (slice_index_or values i (pos 0)) fits) at c.fold.ensures);
      rest = rest_less columns c.loop-place.columns.items i c.fold.new.self c.loop-place.invariant.rest;
      fits = below_more (λ k. FitsSigned w64 (slice_index_or values k (pos 0))) i c.loop-place.invariant.fits fits;
    }

pub returns-clause-fits : goal.returns-clause-fits
returns-clause-fits c = λ place.
    elim (cases_lt place (length c.args.values.now)) [
      | inl lt ↦ c.loop-place.invariant.fits place (omega arith)
      | inr le ↦ rw (get_or_past c.args.values.now place (pos 0) le) (search rules)
    ]
