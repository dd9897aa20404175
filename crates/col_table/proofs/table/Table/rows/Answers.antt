use Rattle.std.proofs.Common.{sym, subst}
use Rattle.col_table.specs.Columns.{values_of}
use Rattle.col_table.specs.NamedRows.{IsTable}
use Rattle.col_table.proofs.Across.{length-rows_across}
use Rattle.col_table.proofs.Stored.{IsTable-from_stored}
use Rattle.col_table.proofs.table.Table.rows.Goals as goal

pub returns-clause-count : goal.returns-clause-count
returns-clause-count c = rw (← c.self.view_is) (sym (length-rows_across (values_of c.self.inside.columns.items) c.self.inside.row_count))

pub returns-clause-table : goal.returns-clause-table
returns-clause-table c = subst IsTable c.self.view_is (IsTable-from_stored c.self.inside c.self.invariant)
