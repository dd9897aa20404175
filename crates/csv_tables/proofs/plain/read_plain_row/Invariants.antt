use Rattle.std.proofs.Common.{◌≡◌, ◌<◌, ◌≤◌, [], All, List, Some, drop, length, map, take, ℕ}
use Rattle.csv.specs.declared.parser.State.{State}
use Rattle.csv.specs.declared.parser.State.TheVariants as st
use Rattle.csv_tables.specs.Numbers.{IsValue, number_of}
use Rattle.csv_tables.specs.Reading.{reads_from}
use Rattle.csv_tables.proofs.plain.read_plain_row.Given as goal

abbrev pub invariant-loop-place : goal.invariant-loop-place
invariant-loop-place l = record {
  within : l.start ≤ length l.bytes;
  fields : List (List ℕ);
  count : length fields ≡ l.place;
  values : All IsValue fields;
  row : take l.place l.row ≡ map number_of fields;
  going : l.place < length l.row → reads_from st.StartRecord (record { fields = []; field = [] }) (drop l.fn.at l.bytes)
      ≡ reads_from st.StartField (record { fields = fields; field = [] }) (drop l.start l.bytes);
  ended : length l.row ≤ l.place → (after : State) × (reads_from st.StartRecord (record { fields = []; field = [] }) (drop l.fn.at l.bytes)
      ≡ Some (fields, after, drop l.start l.bytes));
}
