use Rattle.std.proofs.Common.{◌∙◌, ap, get_or, pos, rules, w64, FitsSigned}
use Rattle.std.proofs.lemmas.Int.{to_z-of_z}
use Rattle.col_table.specs.NamedRows.{value_in}
use Rattle.col_table.proofs.NamedRowsFacts.{value_in-column_of}
use Rattle.col_table.proofs.table.Table.value.Goals as goal

pub returns : goal.returns
returns c =
    let fits : FitsSigned w64 (get_or c.column.result.now c.args.row (pos 0)) = search rules in
    to_z-of_z w64 (get_or c.column.result.now c.args.row (pos 0)) fits
    ∙ ap (λ column. value_in column c.args.row) c.column.ensures
    ∙ value_in-column_of c.args.self.now c.args.row c.args.col c.requires.row_within
