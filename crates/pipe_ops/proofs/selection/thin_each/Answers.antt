use Rattle.std.proofs.Common.{◌≡◌, ◌+◌, ◌<◌, ℕ, ℤ, Bool, [], ◌∷◌, ◌++◌, cond, filter, length, get_or, pos, set, sym, take, ap, ◌∙◌, subst, rules}
use Rattle.std.proofs.Common.{arith, w64, to_z, of_z}
use Rattle.std.proofs.lemmas.Grind.{drop_more_same}
use Rattle.std.proofs.lemmas.List.{drop-set-lt, get_or-take, length-set, length-take-le}
use Rattle.std.proofs.lemmas.List.Elements.{filter_more}
use mir.Val.{SFits}
use Rattle.pipe_ops.specs.Selection.{compares_at}
use Rattle.pipe_ops.proofs.SelectionLemmas.{at_most_one, counted, keep_more, same_at}
use Rattle.pipe_ops.proofs.selection.thin_each.Goals as goal

pub bounds-column-row : goal.bounds-column-row
bounds-column-row c =
    let i = c.loop-place.place in
    let old = c.args.rows.now in
    let count = c.args.count in
    let inside : i < count = c.loop-place-test.true in
    let same = same_at c.loop-place.rows old i c.loop-place.invariant.rest in
    subst (λ n. n < length c.args.column.now) (get_or-take count old i 0 inside ∙ sym same)
    (c.requires.places.within i 0 (omega (arith, length-take-le count old c.requires.places.few)))

pub loop-place-preserved : goal.loop-place-preserved
loop-place-preserved c =
    let before = c.loop-place.invariant in
    let rows = c.loop-place.rows in
    let kept = c.loop-place.kept in
    let i : ℕ = c.loop-place.place in
    let old = c.args.rows.now in
    let row : ℕ = get_or rows i 0 in
    let column = c.args.column.now in
    let value : ℤ = to_z w64 (of_z w64 c.args.value) in
    let test : ℕ → Bool = compares_at c.args.op column value in
    let fits : SFits w64 (get_or column row (pos 0)) = search rules in
    let short : kept < length rows = omega (arith, before.few, before.same, c.requires.places.few, c.loop-place-test.true) in
    let inside : i < length old = omega (arith, c.requires.places.few, c.loop-place-test.true) in
    let added = counted c.args.op column value row c.compares.result c.from-kept.result fits c.compares.ensures c.from-kept.ensures in
    let same : row ≡ get_or old i 0 = same_at rows old i before.rest in
    record {
      few = omega (arith, before.few, at_most_one (test row), added);
      same = length-set rows kept row ∙ before.same;
      rest = drop-set-lt (i + 1) rows kept row (omega (arith, before.few)) ∙ drop_more_same rows old i before.rest;
      selected =
          ap (λ n. take (kept + n) (set rows kept row)) added ∙ keep_more (test row) rows kept row short ∙ ap (λ l. l ++ cond (test row) (row ∷ []) [])
          before.selected
          ∙ ap (λ (n : ℕ). filter test (take i old) ++ cond (test n) (n ∷ []) []) same ∙ sym (filter_more test old i 0 inside);
    }
