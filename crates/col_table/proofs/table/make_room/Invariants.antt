use Rattle.std.proofs.Common.{◌≡◌, take, All}
use Rattle.col_table.specs.Columns.{HasRoom, values_of}
use Rattle.col_table.proofs.table.make_room.Given as goal

abbrev pub invariant-loop-column : goal.invariant-loop-column
invariant-loop-column l = (values_of l.columns ≡ values_of l.initial.columns) × All HasRoom (take l.column-index l.columns)
