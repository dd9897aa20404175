use Rattle.std.proofs.Common.{◌≡◌, All, FitsSigned, take}
use Rattle.std.specs.Int.{w64}
use Rattle.csv_tables.specs.Writing.{table_text}
use Rattle.csv_tables.proofs.writing.write_table.Given as goal

abbrev pub invariant-loop-row : goal.invariant-loop-row
invariant-loop-row l = record {
  text : l.text.items ≡ table_text (record { names = l.table.names; rows = take l.row l.table.rows });
  fits : All (All (FitsSigned w64)) (take l.row l.table.rows);
}
