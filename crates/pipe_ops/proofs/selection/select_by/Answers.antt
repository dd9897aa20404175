use Rattle.std.proofs.Common.{ℤ, List, filter, ap, ◌∙◌, rules, w64}
use Rattle.std.proofs.lemmas.Int.{to_z-of_z}
use mir.Val.{SFits}
use Rattle.pipe_ops.specs.Selection.{compares_at}
use Rattle.pipe_ops.specs.StagePlaces.{numbers_from}
use Rattle.pipe_ops.proofs.SelectionLemmas.{passes_one}
use Rattle.pipe_ops.proofs.selection.select_by.Goals as goal

pub returns : goal.returns
returns c =
    let filter_at = c.args.by.now in
    let numbers = numbers_from c.args.from c.args.to in
    let value : ℤ = filter_at.value in
    let fits : SFits w64 value = search rules in
    let is = c.select.ensures.are ∙ ap (λ v. filter (compares_at filter_at.op c.column-column.result.now v) numbers) (to_z-of_z w64 value fits)
    ∙ ap (λ (l : List ℤ). filter (compares_at filter_at.op l value) numbers) c.column-column.ensures ∙ passes_one c.args.table.now filter_at numbers in
    record { few = c.select.ensures.few; same = c.select.ensures.same; are = is }
