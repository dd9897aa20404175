use Rattle.std.proofs.Common.{◌<◌, ℕ, Bool, List, All, filter, length, refl, sym, take, ap, ◌∙◌, subst, rules}
use Rattle.std.proofs.lemmas.List.{nil_from_length}
use Rattle.std.proofs.lemmas.List.Elements.{All-filter}
use Rattle.plan_ast.specs.declared.places.FilterAt.{FilterAt}
use Rattle.pipe_ops.specs.Placed.{passes_at, row_at}
use Rattle.pipe_ops.specs.StagePlaces.{numbers_from}
use Rattle.pipe_ops.proofs.ChunkLemmas.{scanned_from}
use Rattle.pipe_ops.proofs.SelectionLemmas.{all_pass, first_passes, next_passes}
use Rattle.pipe_ops.proofs.selection.select_rows.Goals as goal

pub returns-then-is_empty : goal.returns-then-is_empty
returns-then-is_empty c =
    let is = c.all_rows.ensures.are
    ∙ sym (ap (λ (fs : List FilterAt). filter (λ row. passes_at fs (row_at c.args.table.now row)) (numbers_from c.args.from c.args.to))
    (nil_from_length c.args.filters.now (search rules)) ∙ all_pass (numbers_from c.args.from c.args.to)) in
    record { few = c.all_rows.ensures.few; same = c.all_rows.ensures.same; are = is }

pub loop-place-init : goal.loop-place-init
loop-place-init c = record {
  few = c.select_by-count.ensures.few;
  same = refl;
  selected = c.select_by-count.ensures.are ∙ first_passes c.args.table.now c.args.filters.now _ (numbers_from c.args.from c.args.to) (search rules);
}

pub thin_by-count-requires-clause-places : goal.thin_by-count-requires-clause-places
thin_by-count-requires-clause-places c =
    let rows = length c.args.table.now.rows in
    let numbers = numbers_from c.args.from c.args.to in
    let test : ℕ → Bool = λ row. passes_at (take c.loop-place.place c.args.filters.now) (row_at c.args.table.now row) in
    record {
      few = c.loop-place.invariant.few;
      within = subst (All (λ row. row < rows)) (sym c.loop-place.invariant.selected)
          (All-filter test (λ row. row < rows) numbers (scanned_from c.args.from c.args.to rows c.requires.range.within));
    }

pub loop-place-preserved : goal.loop-place-preserved
loop-place-preserved c =
    let table = c.args.table.now in
    let filters = c.args.filters.now in
    let numbers = numbers_from c.args.from c.args.to in
    record {
      few = c.thin_by-count.ensures.few;
      same = c.thin_by-count.ensures.same ∙ c.loop-place.invariant.same;
      selected = c.thin_by-count.ensures.are ∙ ap (filter _) c.loop-place.invariant.selected
          ∙ next_passes table filters c.loop-place.place _ numbers c.loop-place-test.true;
    }
