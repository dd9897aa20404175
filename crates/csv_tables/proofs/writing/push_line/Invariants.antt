use Rattle.std.proofs.Common.{◌≡◌, ◌++◌, All, FitsSigned, map, take}
use Rattle.std.specs.Fmt.{signed_decimal}
use Rattle.std.specs.Int.{w64}
use Rattle.csv.specs.Writing.{default_writer, row_body}
use Rattle.csv_tables.proofs.writing.push_line.Given as goal

abbrev pub invariant-loop-place : goal.invariant-loop-place
invariant-loop-place l = record {
  text : l.text.items ≡ l.fn.text.items ++ row_body default_writer (map signed_decimal (take l.place l.values));
  fits : All (FitsSigned w64) (take l.place l.values);
}
