use Rattle.std.proofs.Common.{◌≡◌, [], drop}
use Rattle.csv.specs.declared.parser.State.TheVariants as st
use Rattle.csv_tables.specs.Reading.{reads_from}
use Rattle.csv_tables.proofs.plain.first_byte.Given as goal

abbrev pub invariant-loop-place : goal.invariant-loop-place
invariant-loop-place l =
    reads_from st.StartRecord (record { fields = []; field = [] }) (drop l.fn.at l.bytes)
    ≡ reads_from st.StartRecord (record { fields = []; field = [] }) (drop l.place l.bytes)
