-- A table as contracts see it: a list of names and a list of rows.
use Rattle.std.specs.Prelude.{ℕ, ℤ, pos, ◌≡◌, ◌<◌, ◌≤◌, List, [], ◌∷◌, ◌++◌, length, map, All}
use Rattle.std.specs.Prelude.{slice_index_or}
use Rattle.col_table.specs.declared.table.TheConstants.{MAX_COLUMNS, MAX_ROWS}

-- names, and rows of values, one value for each name
pub record NamedRows : Type 0 where
  pub names : List (List ℕ)
  pub rows : List (List ℤ)

-- the name at a place
abbrev pub name_at : List (List ℕ) → ℕ → List ℕ
name_at names place = slice_index_or names place []

-- the name at this place repeats an earlier one
abbrev pub StoodBefore : List (List ℕ) → ℕ → Type 0
StoodBefore names place =
    (earlier : ℕ) × (earlier < place) × (name_at names earlier ≡ name_at names place)

-- no name repeats an earlier one
abbrev pub AllDiffer : List (List ℕ) → Type 0
AllDiffer names = (place : ℕ) → place < length names → ¬ (StoodBefore names place)

-- the first place whose name repeats an earlier one
pub record IsFirstTwice (names : List (List ℕ)) (place : ℕ) : Type 0 where
  pub within : place < length names
  pub twice : StoodBefore names place
  pub first : (other : ℕ) → other < place → ¬ (StoodBefore names other)

-- names that may head a table
pub record IsHeading (names : List (List ℕ)) : Type 0 where
  pub some : 0 < length names
  pub few : length names ≤ MAX_COLUMNS
  pub differ : AllDiffer names

-- what each table keeps
pub record IsTable (table : NamedRows) : Type 0 where
  pub heading : IsHeading table.names
  pub widths : All (λ row. length row ≡ length table.names) table.rows
  pub few : length table.rows ≤ MAX_ROWS

-- the table with these names and no row
abbrev pub no_rows : List (List ℕ) → NamedRows
no_rows names = record { names = names; rows = [] }

-- the table with one more row at its end
abbrev pub with_row : NamedRows → List ℤ → NamedRows
with_row table row = record { names = table.names; rows = table.rows ++ row ∷ [] }

-- the value of a row in a column, or 0 if there is none
abbrev pub value_in : List ℤ → ℕ → ℤ
value_in row column = slice_index_or row column (pos 0)

-- the value of a table in a row and a column
abbrev pub value_at : NamedRows → ℕ → ℕ → ℤ
value_at table row column = value_in (slice_index_or table.rows row []) column

-- the values of a column, row by row
abbrev pub column_of : NamedRows → ℕ → List ℤ
column_of table column = map (λ row. value_in row column) table.rows
