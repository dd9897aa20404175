use Rattle.std.proofs.Common.{◌+◌, ℕ, ℤ, Bool, filter, length, get_or, pos, sym, ap, ◌∙◌, rules, arith, w64, to_z, of_z}
use mir.Val.{SFits, bool_byte}
use Rattle.pipe_ops.specs.Selection.{compares_at}
use Rattle.pipe_ops.proofs.MembersLemmas.{numbers_from-none}
use Rattle.pipe_ops.proofs.SelectionLemmas.{at_most_one, count_from-more, counted}
use Rattle.pipe_ops.proofs.selection.count_passing.Goals as goal

pub loop-row-init : goal.loop-row-init
loop-row-init c = record {
  few = omega arith;
  is = sym (ap length (ap (filter _) (numbers_from-none c.args.from)));
}

pub loop-row-preserved : goal.loop-row-preserved
loop-row-preserved c =
    let before = c.loop-row.invariant in
    let row : ℕ = c.loop-row.row in
    let column = c.args.column.now in
    let value : ℤ = to_z w64 (of_z w64 c.args.value) in
    let test : ℕ → Bool = compares_at c.args.op column value in
    let fits : SFits w64 (get_or column row (pos 0)) = search rules in
    let added = counted c.args.op column value row c.compares.result c.from-count.result fits c.compares.ensures c.from-count.ensures in
    record {
      few = omega (arith, before.few, at_most_one (test row), added);
      is =
          ap (λ n. c.loop-row.count + n) added ∙ ap (λ n. n + bool_byte (test row)) before.is
          ∙ sym (count_from-more test c.args.from row c.loop-row.auto.row);
    }
