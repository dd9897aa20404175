use Rattle.std.proofs.Common.{◌≡◌, [], All, take}
use Rattle.col_table.specs.Name.{IsName}
use Rattle.csv.specs.Records.{fields_of, partial_of}
use Rattle.csv_tables.proofs.writing.fill_names.Given as goal

abbrev pub invariant-loop-col : goal.invariant-loop-col
invariant-loop-col l = record {
  partial : partial_of l.fields ≡ [];
  done : fields_of l.fields ≡ take l.col l.table.names;
  legal : All IsName (take l.col l.table.names);
}
