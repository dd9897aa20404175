use Rattle.std.proofs.Common.{◌<◌, ◌∙◌, ap, arith, length, sym}
use Rattle.col_table.specs.NamedRows.{column_of}
use Rattle.col_table.proofs.Stored.{column_of-stored, get_or-values_of}
use Rattle.col_table.proofs.table.Table.column.Goals as goal

pub returns : goal.returns
returns c =
    let inside : c.args.col < length c.self.inside.columns.items = omega (arith, ap (λ table. length table.names) c.self.view_is, c.self.invariant.columns) in
    c.as_slice.ensures.value
    ∙ ap (λ column. column.items) c.index.ensures
    ∙ sym (get_or-values_of c.self.inside.columns.items c.args.col c.index.result.now inside)
    ∙ sym (column_of-stored c.self.inside c.self.invariant c.args.col inside)
    ∙ ap (λ table. column_of table c.args.col) c.self.view_is
