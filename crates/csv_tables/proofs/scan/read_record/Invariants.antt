use Rattle.std.proofs.Common.{◌≡◌, ◌<◌, [], drop, length}
use Rattle.col_table.specs.declared.table.TheConstants.{MAX_COLUMNS}
use Rattle.csv.specs.Records.{fields_of, partial_of}
use Rattle.csv.specs.declared.parser.State.TheVariants as st
use Rattle.csv_tables.specs.Reading.{reads_from, state_of}
use Rattle.csv_tables.proofs.scan.read_record.Given as goal

abbrev pub invariant-loop-place : goal.invariant-loop-place
invariant-loop-place l = record {
  partial : partial_of l.fields ≡ [];
  few : length (fields_of l.fields) < MAX_COLUMNS;
  reads : reads_from st.StartRecord (record { fields = []; field = [] }) (drop l.fn.at l.bytes)
      ≡ reads_from (state_of l.state) (record { fields = fields_of l.fields; field = l.field.items }) (drop l.place l.bytes);
}
