-- Which table a text stands for.
use Rattle.std.specs.Prelude.{ℕ, ◌≡◌, List, [], ◌∷◌, ◌++◌, length, map, All}
use Rattle.col_table.specs.Name.{IsName}
use Rattle.col_table.specs.NamedRows.{IsHeading, IsTable, NamedRows, no_rows}
use Rattle.csv.specs.Reading.{default_config, records as records_with, strip_bom}
use Rattle.csv_tables.specs.Numbers.{IsValue, number_of}

-- the records of a text, as `csv` reads it with its defaults: the header first
abbrev pub records_of : List ℕ → List (List (List ℕ))
records_of bytes = records_with default_config (strip_bom bytes)

-- a record may be the header: its fields are names that may head a table
pub record IsHeader (header : List (List ℕ)) : Type 0 where
  pub legal : All IsName header
  pub heading : IsHeading header

-- a record may be a row of this many values
pub record IsRow (count : ℕ) (fields : List (List ℕ)) : Type 0 where
  pub width : length fields ≡ count
  pub values : All IsValue fields

-- a table grows by the rows that records write
pub record GrowsBy (old : NamedRows) (records : List (List (List ℕ))) (new : NamedRows)
    : Type 0 where
  pub names : new.names ≡ old.names
  pub lines : All (IsRow (length old.names)) records
  pub rows : new.rows ≡ old.rows ++ map (map number_of) records
  pub shape : IsTable new

-- a list of records stands for a table: the first is its header, and the others write its rows
abbrev pub RecordsStandFor : List (List (List ℕ)) → NamedRows → Type 0
RecordsStandFor [] table = ⊥
RecordsStandFor (header ∷ lines) table = IsHeader header × GrowsBy (no_rows header) lines table

-- a text stands for a table
abbrev pub LoadsTable : List ℕ → NamedRows → Type 0
LoadsTable bytes table = RecordsStandFor (records_of bytes) table
