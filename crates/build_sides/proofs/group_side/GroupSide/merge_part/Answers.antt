use Rattle.std.proofs.Common.{◌≡◌, suc, ◌-◌, ◌<◌, ◌++◌, List, length, drop, slice_index, refl, sym, ap, ◌∙◌, subst, arith}
use Rattle.std.proofs.lemmas.Bool.{eq-eqb}
use Rattle.std.proofs.lemmas.List.{append-nil, get_or_default}
use Rattle.std.proofs.lemmas.Result.{err_from_is_err_and}
use Rattle.build_sides.specs.Chains.{key_at}
use Rattle.build_sides.specs.FoldedRows.{FoldedRow}
use Rattle.build_sides.specs.GroupSides.{Folds, key_part}
use Rattle.build_sides.specs.GroupTotals.{GroupTotals}
use Rattle.build_sides.specs.Numbered.{AreDistinct}
use Rattle.build_sides.specs.PartChains.{AreParts}
use Rattle.build_sides.proofs.Distinct.{absent-later, distinct-drop}
use Rattle.build_sides.proofs.Folding.{length-rows_with}
use Rattle.build_sides.proofs.Merging.{gathered, gathered_before, gathered_more, gathered_some, merged_part}
use Rattle.build_sides.proofs.PartKeys.{head_past, next_past}
use Rattle.build_sides.proofs.group_side.GroupSide.merge_part.Goals as goal

pub loop-at-init : goal.loop-at-init
loop-at-init c =
    let keys = c.args.other.now.keys in
    let heads = c.other.inside.parts.heads.items in
    let nexts = c.other.inside.parts.nexts.items in
    let parts : AreParts c.other.inside.parts keys = rw (ap (λ (s : GroupTotals). s.keys) c.other.view_is) at c.other.invariant.parts in
    let lt : c.args.part < length heads = omega (arith, parts.count) in
    let at : c.index-at.result.now ≡ slice_index heads c.args.part = c.index-at.ensures ∙ get_or_default heads c.args.part c.index-at.result.now 0 lt in
    let bound = parts.chained.head_bound c.args.part lt in
    record {
      bound = rw at bound;
      part = λ e h. parts.chained.head_place c.args.part e lt (sym at ∙ h);
      funcs = refl;
      folds = λ rows others few folds of_other. rw (at, head_past c.args.part heads nexts keys parts.chained others bound, append-nil rows) folds;
    }

pub loop-at-preserved : goal.loop-at-preserved
loop-at-preserved c =
    let keys = c.args.other.now.keys in
    let heads = c.other.inside.parts.heads.items in
    let nexts = c.other.inside.parts.nexts.items in
    let part = c.args.part in
    let n = c.loop-at.at - 1 in
    let key = key_at keys n in
    let is = ap (λ (s : GroupTotals). s.keys) c.other.view_is in
    let parts : AreParts c.other.inside.parts keys = rw is at c.other.invariant.parts in
    let distinct : AreDistinct keys = rw is at c.other.invariant.groups.distinct in
    let from : c.loop-at.at ≡ suc n = omega arith in
    let lt : n < length keys = omega (arith, c.loop-at.invariant.bound) in
    let mine : key_part key ≡ part = c.loop-at.invariant.part n (omega arith) in
    let at : c.index-at-in-loop-at.result.now ≡ slice_index nexts n =
    c.index-at-in-loop-at.ensures ∙ get_or_default nexts n c.index-at-in-loop-at.result.now 0 (omega (arith, parts.chained.same)) in
    record {
      bound = rw at (omega (arith, parts.chained.next_bound n lt));
      part = λ e h. parts.chained.next_place n e lt (sym at ∙ h) ∙ mine;
      funcs = c.add_group.ensures.funcs ∙ c.loop-at.invariant.funcs;
      folds = λ rows others few folds of_other.
          let before = gathered_before part (drop (suc n) keys) key rows others (absent-later keys n distinct) in
          let taken = subst (λ m. Folds (rows ++ gathered part (drop m keys) others) c.loop-at.self) from
          (c.loop-at.invariant.folds rows others few folds of_other) in
          subst (λ (l : List FoldedRow). Folds l c.add_group.new.self)
          (gathered_more part keys n rows others lt (eq-eqb _ _ mine) ∙ ap (λ l. rows ++ l) (next_past part heads nexts keys parts.chained others n lt mine)
          ∙ ap (λ m. rows ++ gathered part (drop m keys) others) (sym at))
          (c.in_ok-add_group.ensures.folds (rows ++ gathered part (drop (suc n) keys) others) others
          (rw before (omega (arith, length-rows_with key rows, length-rows_with key others))) taken of_other);
    }

pub returns-clause-folds : goal.returns-clause-folds
returns-clause-folds c =
    let keys = c.args.other.now.keys in
    let distinct : AreDistinct keys = rw (ap (λ (s : GroupTotals). s.keys) c.other.view_is) at c.other.invariant.groups.distinct in
    let none : c.loop-at.at ≡ 0 = omega arith in
    λ rows others few folds of_other.
    merged_part c.args.part rows others c.args.self.now c.loop-at.self c.args.other.now distinct folds of_other
    (subst (λ m. Folds (rows ++ gathered c.args.part (drop m keys) others) c.loop-at.self) none
    (c.loop-at.invariant.folds rows others few folds of_other))

pub returns-in_err-add_group-clause-err : goal.returns-in_err-add_group-clause-err
returns-in_err-add_group-clause-err c =
    let keys = c.args.other.now.keys in
    let from = c.loop-at.at in
    let distinct : AreDistinct keys = rw (ap (λ (s : GroupTotals). s.keys) c.other.view_is) at c.other.invariant.groups.distinct in
    let p = err_from_is_err_and c.from_residual.result c.from_residual.ensures.1 in
    rw (p.1, c.in_err-add_group.ensures.err) (λ rows others few folds of_other. record {
      taken = gathered c.args.part (drop from keys) others;
      each = λ key. gathered_some c.args.part (drop from keys) others key (distinct-drop keys from distinct);
      folds = c.loop-at.invariant.folds rows others few folds of_other;
    })
