use Rattle.std.proofs.Common.{ℕ, ℤ, pos, Option, slice_index, slice_index_or, sym, ap, ◌∙◌, subst, w64, FitsSigned}
use Rattle.plan_ast.specs.declared.places.ColumnAt.{ColumnAt}
use Rattle.build_sides.specs.Columns.{FoldsValues, value_by}
use Rattle.build_sides.specs.FoldedRows.{folded_value}
use Rattle.build_sides.proofs.TableRows.{column_at}
use Rattle.build_sides.proofs.group_side.fold_column.Goals as goal

pub returns-in-Some-clause-folds : goal.returns-in-Some-clause-folds
returns-in-Some-clause-folds c =
    let table = c.args.table.now in
    let rows = c.args.rows.now in
    subst (λ (f : ℕ → ℤ). FoldsValues c.args.numbers.now f c.args.column.now c.fold_each.new.self)
    (ap (λ l. value_by l rows) c.column-values.ensures ∙ (λ j k. column_at table.rows c.in-Some.at.column (slice_index rows k) j)
    ∙ ap (λ (o : Option ColumnAt). λ (k : ℕ). folded_value table (slice_index rows k) o) (sym c.in-Some.is))
    c.fold_each.ensures

pub returns-in-Some-clause-fits : goal.returns-in-Some-clause-fits
returns-in-Some-clause-fits c = λ k lt.
    let table = c.args.table.now in
    let row = slice_index c.args.rows.now k in
    subst (FitsSigned w64) (ap (λ l. slice_index_or l row (pos 0)) c.column-values.ensures ∙ column_at table.rows c.in-Some.at.column row
    ∙ ap (folded_value table row) (sym c.in-Some.is)) (c.read_each.ensures k lt)
