-- How a table grows row by row.
use Rattle.std.proofs.Common.{◌≡◌, ◌≢◌, ℕ, List, [], ◌∷◌, ◌++◌, length, map, sym, ap, ◌∙◌, arith}
use Rattle.std.proofs.lemmas.List.{append_assoc, length-map, length_push, map-append}
use Rattle.std.proofs.lemmas.List.Elements.{All-push}
use Rattle.col_table.specs.NamedRows.{NamedRows, with_row}
use Rattle.col_table.specs.declared.table.TheConstants.{MAX_ROWS}
use Rattle.csv_tables.specs.Loading.{GrowsBy, IsRow}
use Rattle.csv_tables.specs.Numbers.{number_of}

-- a table that grew by records grows by one more to the table with one row more
pub grows_more : (old table : NamedRows) (records : List (List (List ℕ))) (fields : List (List ℕ)) → GrowsBy old records table → IsRow (length old.names) fields
    → length table.rows ≢ MAX_ROWS
    → GrowsBy old (records ++ fields ∷ []) (with_row table (map number_of fields))
grows_more old table records fields grows row room = record {
  names = grows.names;
  lines = All-push (IsRow (length old.names)) records fields grows.lines row;
  rows =
      ap (λ rows. rows ++ map number_of fields ∷ []) grows.rows
      ∙ append_assoc old.rows (map (map number_of) records) (map number_of fields ∷ [])
      ∙ ap (λ rows. old.rows ++ rows) (sym (map-append (map number_of) records (fields ∷ [])));
  shape = record {
    heading = grows.shape.heading;
    widths = All-push (λ values. length values ≡ length table.names) table.rows (map number_of fields) grows.shape.widths
        (length-map fields number_of ∙ row.width ∙ sym (ap length grows.names));
    few = omega (arith, grows.shape.few, length_push table.rows (map number_of fields));
  };
}
