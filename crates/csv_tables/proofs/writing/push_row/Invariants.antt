use Rattle.std.proofs.Common.{◌≡◌, ◌++◌, [], All, FitsSigned, map, slice_index_or, take}
use Rattle.std.specs.Fmt.{signed_decimal}
use Rattle.std.specs.Int.{w64}
use Rattle.csv.specs.Writing.{default_writer, row_body}
use Rattle.csv_tables.proofs.writing.push_row.Given as goal

abbrev pub invariant-loop-col : goal.invariant-loop-col
invariant-loop-col l = record {
  text : l.text.items ≡ l.fn.text.items ++ row_body default_writer (map signed_decimal (take l.col (slice_index_or l.table.rows l.row [])));
  fits : All (FitsSigned w64) (take l.col (slice_index_or l.table.rows l.row []));
}
