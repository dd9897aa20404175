use Rattle.std.proofs.Common.{◌≡◌, All, length, map, take}
use Rattle.csv.specs.Records.{fields_of}
use Rattle.csv_tables.specs.Numbers.{IsValue, number_of}
use Rattle.csv_tables.proofs.rows.parse_row.Given as goal

abbrev pub invariant-loop-place : goal.invariant-loop-place
invariant-loop-place l = record {
  width : length l.row ≡ length (fields_of l.fields);
  values : All IsValue (take l.place (fields_of l.fields));
  row : take l.place l.row ≡ map number_of (take l.place (fields_of l.fields));
}
