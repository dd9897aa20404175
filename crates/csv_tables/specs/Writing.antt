-- The text that a table is written as.
use Rattle.std.specs.Prelude.{ℕ, ◌≡◌, ℤ, List, ◌∷◌, map}
use Rattle.std.specs.Fmt.{signed_decimal}
use Rattle.std.specs.List.{flat_map}
use Rattle.col_table.specs.NamedRows.{NamedRows}
use Rattle.csv.specs.Writing.{default_writer, row_text}

-- the records of a table: its names, and then the decimal values of its rows
abbrev pub records_of_table : NamedRows → List (List (List ℕ))
records_of_table table = table.names ∷ map (map signed_decimal) table.rows

-- the text of a table: its records, as `csv` writes them with its defaults
abbrev pub table_text : NamedRows → List ℕ
table_text table = flat_map (row_text default_writer) (records_of_table table)

-- the line of a row: its decimal values, as a record of a table
abbrev pub line_text : List ℤ → List ℕ
line_text values = row_text default_writer (map signed_decimal values)

-- a text begins with U+FEFF, which at the start of a file is a byte order mark
abbrev pub BeginsWithMark : List ℕ → Type 0
BeginsWithMark text = (rest : List ℕ) × (text ≡ 0xEF ∷ 0xBB ∷ 0xBF ∷ rest)
