use Rattle.std.proofs.Common.{subst}
use Rattle.col_table.specs.NamedRows.{IsTable}
use Rattle.col_table.proofs.Stored.{IsTable-from_stored}
use Rattle.col_table.proofs.table.Table.cols.Goals as goal

pub returns-clause-table : goal.returns-clause-table
returns-clause-table c = subst IsTable c.self.view_is (IsTable-from_stored c.self.inside c.self.invariant)
