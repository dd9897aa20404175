use Rattle.std.proofs.Common.{◌≡◌, ◌≤◌, length, take}
use Rattle.csv.specs.Records.{fields_of}
use Rattle.csv_tables.specs.Refusals.{AreNames}
use Rattle.csv_tables.proofs.header.parse_names.Given as goal

abbrev pub invariant-loop-field : goal.invariant-loop-field
invariant-loop-field l = record {
  row : l.field-iterator.row.now ≡ l.fn.header;
  within : l.field-iterator.at ≤ length (fields_of l.fn.header);
  good : AreNames (take l.field-iterator.at (fields_of l.fn.header));
  names : l.names.items ≡ take l.field-iterator.at (fields_of l.fn.header);
}
