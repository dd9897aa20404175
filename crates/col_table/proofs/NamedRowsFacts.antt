-- What the words on tables say of one another.
use Rattle.std.proofs.Common.{◌≡◌, ℕ, ◌<◌, [], length, pos}
use Rattle.std.proofs.lemmas.List.{get_or-map}
use Rattle.col_table.specs.NamedRows.{NamedRows, column_of, value_at, value_in}

-- the value of a column in a row
pub value_in-column_of : (table : NamedRows) (row column : ℕ) → row < length table.rows → value_in (column_of table column) row ≡ value_at table row column
value_in-column_of table row column h = get_or-map (λ row. value_in row column) table.rows row [] (pos 0) h
