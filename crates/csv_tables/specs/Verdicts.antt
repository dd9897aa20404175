-- What each text gives: a table, or a first refusal.
use Rattle.std.specs.Prelude.{ℕ, List, Result, Ok, Err}
use Rattle.col_table.specs.NamedRows.{NamedRows}
use Rattle.csv_tables.specs.Loading.{LoadsTable, records_of}
use Rattle.csv_tables.specs.Refusals.{RefusesRecords}
use Rattle.csv_tables.specs.declared.refusal.TableRefusal.{TableRefusal}

-- a text stands for this table, or has this first refusal
abbrev pub IsVerdict : List ℕ → Result NamedRows TableRefusal → Type 0
IsVerdict bytes (Ok table) = LoadsTable bytes table
IsVerdict bytes (Err refusal) = RefusesRecords (records_of bytes) refusal
