use Rattle.std.proofs.Common.{◌<◌, [], ◌∷◌, ◌++◌, length, refl, sym, ap, ◌∙◌, arith}
use Rattle.std.proofs.lemmas.List.{length-set, take_more_set}
use Rattle.pipe_ops.proofs.MembersLemmas.{numbers_from-more, numbers_from-none}
use Rattle.pipe_ops.proofs.selection.all_rows.Goals as goal

pub loop-row-init : goal.loop-row-init
loop-row-init c = record { few = omega arith; same = refl; selected = sym (numbers_from-none c.args.from) }

pub loop-row-preserved : goal.loop-row-preserved
loop-row-preserved c =
    let before = c.loop-row.invariant in
    let rows = c.loop-row.rows in
    let count = c.loop-row.count in
    let row = c.loop-row.row in
    let low = c.loop-row.auto.row in
    let short : count < length rows = omega (arith, before.few, before.same, c.requires.room, c.loop-row-test.true) in
    record {
      few = omega (arith, before.few);
      same = length-set rows count row ∙ before.same;
      selected = take_more_set rows count row short ∙ ap (λ l. l ++ row ∷ []) before.selected ∙ sym (numbers_from-more c.args.from row low);
    }
