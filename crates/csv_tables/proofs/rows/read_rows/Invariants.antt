use Rattle.std.proofs.Common.{◌≡◌, ◌≤◌, ◌-◌, ◌++◌, List, ℕ, length}
use Rattle.col_table.specs.declared.table.TheConstants.{MAX_ROWS}
use Rattle.csv_tables.specs.Loading.{GrowsBy}
use Rattle.csv_tables.specs.Reading.{records_at}
use Rattle.csv_tables.proofs.rows.read_rows.Given as goal

abbrev pub invariant-loop-next : goal.invariant-loop-next
invariant-loop-next l = record {
  within : l.start ≤ length l.bytes;
  done : List (List (List ℕ));
  left : records_at l.bytes l.fn.at ≡ done ++ records_at l.bytes l.start;
  grows : GrowsBy l.fn.table done l.table;
  width : length l.row ≡ length l.fn.table.names;
}

abbrev pub decreases-loop-next : goal.decreases-loop-next
decreases-loop-next l = MAX_ROWS - length l.table.rows
