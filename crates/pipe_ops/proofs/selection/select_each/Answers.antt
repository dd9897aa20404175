use Rattle.std.proofs.Common.{◌+◌, ◌<◌, ℕ, ℤ, Bool, [], ◌∷◌, ◌++◌, cond, filter, length, get_or, pos, refl, set, sym, take, ap, ◌∙◌}
use Rattle.std.proofs.Common.{rules, arith, w64, to_z, of_z}
use Rattle.std.proofs.lemmas.List.{length-set}
use mir.Val.{SFits}
use Rattle.pipe_ops.specs.Selection.{compares_at}
use Rattle.pipe_ops.proofs.MembersLemmas.{numbers_from-none}
use Rattle.pipe_ops.proofs.SelectionLemmas.{at_most_one, counted, filter_from-more, keep_more}
use Rattle.pipe_ops.proofs.selection.select_each.Goals as goal

pub loop-row-init : goal.loop-row-init
loop-row-init c = record { few = omega arith; same = refl; selected = sym (ap (filter _) (numbers_from-none c.args.from)) }

pub loop-row-preserved : goal.loop-row-preserved
loop-row-preserved c =
    let before = c.loop-row.invariant in
    let rows = c.loop-row.rows in
    let count = c.loop-row.count in
    let row : ℕ = c.loop-row.row in
    let column = c.args.column.now in
    let value : ℤ = to_z w64 (of_z w64 c.args.value) in
    let test : ℕ → Bool = compares_at c.args.op column value in
    let fits : SFits w64 (get_or column row (pos 0)) = search rules in
    let short : count < length rows = omega (arith, before.few, before.same, c.requires.range.room, c.loop-row-test.true) in
    let added = counted c.args.op column value row c.compares.result c.from-count.result fits c.compares.ensures c.from-count.ensures in
    record {
      few = omega (arith, before.few, at_most_one (test row), added);
      same = length-set rows count row ∙ before.same;
      selected =
          ap (λ n. take (count + n) (set rows count row)) added ∙ keep_more (test row) rows count row short ∙ ap (λ l. l ++ cond (test row) (row ∷ []) [])
          before.selected
          ∙ sym (filter_from-more test c.args.from row c.loop-row.auto.row);
    }
