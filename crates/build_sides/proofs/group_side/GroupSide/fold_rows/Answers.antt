use Rattle.std.proofs.Common.{◌≡◌, ◌+◌, ◌-◌, ◌≤◌, ℕ, [], ◌∷◌, ◌++◌, List, drop, get_or, length, length-append, map, slice_index, take, ap, ◌∙◌, subst, arith}
use Rattle.std.proofs.lemmas.List.{get_or-drop, length-drop, take_all, take_rest}
use Rattle.build_sides.specs.FoldedRows.{FoldedRow, folded_at, key_by}
use Rattle.build_sides.specs.GroupSides.{Folds}
use Rattle.build_sides.specs.Numbered.{IsAbsent}
use Rattle.build_sides.proofs.Known.{count_folded, rows_next}
use Rattle.build_sides.proofs.group_side.GroupSide.fold_rows.Goals as goal

pub loop-done-preserved : goal.loop-done-preserved
loop-done-preserved c =
    let rows = c.args.rows.now in
    let of : ℕ → FoldedRow = folded_at c.args.table.now c.args.by.now c.args.aggs.now in
    let i : ℕ = c.loop-done.done in
    let more : ℕ = c.fold_known-more.result in
    let before = c.loop-done.invariant in
    let known = c.fold_known-more.ensures in
    let new = c.fold_known-more.new.self in
    let rest_is : take (length rows - (i + 1)) (drop (i + 1) rows) ≡ drop (i + 1) rows = take_rest rows (i + 1) in
    let few : more ≤ length (drop (i + 1) rows) = rw rest_is at known.few in
    record {
      few = omega (arith, few, length-drop (i + 1) rows, c.loop-done-test.true);
      room = omega (arith, before.room, c.fold_known-more.auto.numbers);
      funcs = known.funcs ∙ c.in_ok-fold_new.ensures.funcs ∙ before.funcs;
      absent = λ short.
          subst (λ row. IsAbsent new.keys (key_by c.args.table.now c.args.by.now row))
          (ap (λ (l : List ℕ). slice_index l more) rest_is ∙ get_or-drop (i + 1) rows more 0)
          (known.stops (rw rest_is (omega (arith, short, length-drop (i + 1) rows))));
      folds = λ done room holds.
          let first = done ++ map of (take i rows) in
          let count = count_folded of done rows i before.few in
          let one = c.in_ok-fold_new.ensures.folds first (omega (arith, room, count)) (before.folds done (omega (arith, room)) holds) in
          let behind = known.folds (first ++ of (get_or rows i 0) ∷ []) (omega (arith, room, count, length-append first (of (get_or rows i 0) ∷ []))) one in
          subst (λ (l : List FoldedRow). Folds l new)
          (ap (λ (l : List ℕ). (first ++ of (get_or rows i 0) ∷ []) ++ map of (take more l)) rest_is ∙ rows_next of done rows i more c.loop-done-test.true)
          behind;
    }

pub returns-clause-folds : goal.returns-clause-folds
returns-clause-folds c =
    let rows = c.args.rows.now in
    let i : ℕ = c.loop-done.done in
    let before = c.loop-done.invariant in
    let of : ℕ → FoldedRow = folded_at c.args.table.now c.args.by.now c.args.aggs.now in
    λ done room holds.
    subst (λ (l : List ℕ). Folds (done ++ map of l) c.loop-done.self) (take_all i rows (omega arith))
    (before.folds done (omega (arith, room, before.few)) holds)
