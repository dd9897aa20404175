use Rattle.std.proofs.Common.{◌≡◌, ◌≤◌, ◌^◌, ◌++◌, List, flat_map, length, refl, sym, ap, ◌∙◌, subst, append-nil, arith}
use Rattle.std.proofs.lemmas.List.{length-append}
use Rattle.plan_ast.specs.Folds.{range_of}
use Rattle.build_sides.specs.FoldedRows.{FoldedRow}
use Rattle.build_sides.specs.GroupSides.{Folds}
use Rattle.pipe_ops.specs.Merging.{rows_among}
use Rattle.pipe_ops.proofs.MergeRangeLemmas.{among_none, few_among, fits_all, part_more}
use Rattle.pipe_ops.proofs.merge_ranges.merge_range.Goals as goal

pub loop-part-init : goal.loop-part-init
loop-part-init c = record {
  funcs = refl;
  folds = λ rows lists zip few some folds.
      subst (λ (l : List FoldedRow). Folds l c.args.side.now)
      (sym (ap (λ l. rows ++ l) (among_none c.args.from (flat_map (λ l. l) lists)) ∙ append-nil rows)) folds;
}

pub loop-part-preserved : goal.loop-part-preserved
loop-part-preserved c = record {
  funcs = c.add_part.ensures.funcs ∙ c.loop-part.invariant.funcs;
  folds = λ rows lists zip few some folds.
      let from = c.args.from in
      let n = c.loop-part.part in
      let all : List FoldedRow = flat_map (λ l. l) lists in
      let before = rows_among (range_of from n) all in
      let bound : length (rows ++ before) ≤ 2 ^ 61 = omega (arith, length-append rows before, few_among (range_of from n) all) in
      part_more from n rows all c.add_part.new.side (omega (arith, c.loop-part.auto)) (fits_all lists c.args.parts.now zip)
      (c.in_ok-add_part.ensures.folds (rows ++ before) lists zip few bound (c.loop-part.invariant.folds rows lists zip few some folds)) folds.fit;
}

pub returns-clause-folds : goal.returns-clause-folds
returns-clause-folds c = λ rows lists zip few some folds.
    let is : c.loop-part.part ≡ c.args.to = omega (arith, c.loop-part.auto) in
    subst (λ n. Folds (rows ++ rows_among (range_of c.args.from n) (flat_map (λ l. l) lists)) c.loop-part.side) is
    (c.loop-part.invariant.folds rows lists zip few some folds)
