use Rattle.std.proofs.Common.{◌<◌, ◌≤◌, ◌+◌, ◌^◌, ◌++◌, [], List, flat_map, get_or, length, take, sym, ◌∙◌, subst, arith}
use Rattle.std.proofs.lemmas.List.{length-append, take_all}
use Rattle.build_sides.specs.FoldedRows.{FoldedRow}
use Rattle.build_sides.specs.GroupSides.{Folds, rows_in}
use Rattle.pipe_ops.proofs.MergeRangeLemmas.{few_in, few_of_all, rows_in-more, zip_at, zip_length}
use Rattle.pipe_ops.proofs.merge_ranges.add_part.Goals as goal

pub loop-other-preserved : goal.loop-other-preserved
loop-other-preserved c =
    let i = c.loop-other.other-index in
    let part = c.args.part in
    let parts = c.args.parts.now in
    let other = c.other-item.result in
    record {
      funcs = c.merge_part.ensures.funcs ∙ c.loop-other.invariant.funcs;
      folds = λ rows lists zip few some folds.
          let own : List FoldedRow = get_or lists i [] in
          let before = flat_map (λ l. l) (take i lists) in
          let short : i < length lists = omega (arith, zip_length Folds lists parts zip) in
          let this : Folds own other = subst (Folds own) (sym c.other-item.is) (zip_at Folds lists parts zip i [] other c.loop-other-test.true) in
          let bound : length (rows ++ rows_in part before) + length own ≤ 2 ^ 62 =
          omega (arith, length-append rows (rows_in part before), few_in part before, few_of_all lists i short) in
          subst (λ l. Folds l c.merge_part.new.self) (rows_in-more part rows lists i short)
          (c.in_ok-merge_part.ensures.folds (rows ++ rows_in part before) own bound (c.loop-other.invariant.folds rows lists zip few some folds) this);
    }

pub returns-clause-folds : goal.returns-clause-folds
returns-clause-folds c = λ rows lists zip few some folds.
    let i = c.loop-other.other-index in
    subst (λ (ls : List (List FoldedRow)). Folds (rows ++ rows_in c.args.part (flat_map (λ l. l) ls)) c.loop-other.side)
    (take_all i lists (omega (arith, zip_length Folds lists c.args.parts.now zip))) (c.loop-other.invariant.folds rows lists zip few some folds)
