-- What the fields of a table say of it.
use Rattle.std.proofs.Common.{◌≡◌, ◌≢◌, ℕ, ◌+◌, ◌<◌, ℤ, List, [], length, get_or, set, refl, sym, ap, ◌∙◌, arith, add-one}
use Rattle.std.specs.Global.{Vec}
use Rattle.std.proofs.lemmas.List.{get_or-map, length_push, length-map, map-set, set-get_or, take_all}
use Rattle.std.proofs.lemmas.List.Elements.{All-from_get_or}
use Rattle.col_table.specs.Columns.{IsExtended, rows_across, values_of}
use Rattle.col_table.specs.NamedRows.{IsTable, column_of, with_row}
use Rattle.col_table.specs.Stored.{IsStored, table_stored}
use Rattle.col_table.specs.declared.table.Table.TheInside.{Inside}
use Rattle.col_table.specs.declared.table.TheConstants.{MAX_ROWS}
use Rattle.col_table.proofs.Across.{column-rows_across, length-rows_across, rows_across-IsExtended, widths-rows_across}

-- there are as many columns of values as columns
pub length-values_of : (columns : List (Vec ℤ)) → length (values_of columns) ≡ length columns
length-values_of columns = length-map columns (λ values. values.items)

-- the values of a column
pub get_or-values_of : (columns : List (Vec ℤ)) (column : ℕ) (d : Vec ℤ) → column < length columns → get_or (values_of columns) column [] ≡
    (get_or columns column d).items
get_or-values_of columns column d h = get_or-map (λ values. values.items) columns column d [] h

-- a column with the same values leaves all values as they were
pub values_of-set : (columns : List (Vec ℤ)) (column : ℕ) (d new : Vec ℤ) → column < length columns → new.items ≡ (get_or columns column d).items
    → values_of (set columns column new) ≡ values_of columns
values_of-set columns column d new h same =
    map-set (λ values. values.items) columns column new
    ∙ ap (λ values. set (values_of columns) column values) (same ∙ sym (get_or-values_of columns column d h))
    ∙ set-get_or (values_of columns) column []

-- the number of rows
pub length-rows_stored : (fields : Inside) → length (table_stored fields).rows ≡ fields.row_count
length-rows_stored fields = length-rows_across (values_of fields.columns.items) fields.row_count

-- the fields are a table
pub IsTable-from_stored : (fields : Inside) → IsStored fields → IsTable (table_stored fields)
IsTable-from_stored fields stored = record {
  heading = stored.heading;
  widths = widths-rows_across (values_of fields.columns.items) fields.row_count (length fields.names.items)
      (length-values_of fields.columns.items ∙ stored.columns);
  few = omega (arith, stored.few, length-rows_stored fields);
}

-- each column has one value a row
pub height_stored : (fields : Inside) → IsStored fields → (column : ℕ) → column < length fields.columns.items → length
    (get_or (values_of fields.columns.items) column []) ≡ fields.row_count
height_stored fields stored column h = stored.heights column [] (omega (arith, length-values_of fields.columns.items))

-- a column of the table is the column that is stored
pub column_of-stored : (fields : Inside) → IsStored fields → (column : ℕ) → column < length fields.columns.items → column_of (table_stored fields)
    column ≡ get_or (values_of fields.columns.items) column []
column_of-stored fields stored column h =
    let height = height_stored fields stored column h in
    column-rows_across (values_of fields.columns.items) column fields.row_count (omega (arith, length-values_of fields.columns.items)) (omega arith)
    ∙ take_all fields.row_count (get_or (values_of fields.columns.items) column []) (omega arith)

-- the fields after one more value of each column
abbrev pub pushed : Inside → Vec (Vec ℤ) → Inside
pushed fields columns = record { names = fields.names; columns = columns; row_count = fields.row_count + 1 }

-- they are a table's again
pub IsStored-pushed : (fields : Inside) (columns : Vec (Vec ℤ)) (row : List ℤ) → IsStored fields → IsExtended (values_of fields.columns.items)
    (values_of columns.items) row → fields.row_count ≢ MAX_ROWS
    → IsStored (pushed fields columns)
IsStored-pushed fields columns row stored e room = record {
  heading = stored.heading;
  columns = omega (arith, stored.columns, e.count, length-values_of columns.items, length-values_of fields.columns.items);
  heights = All-from_get_or (λ values. length values ≡ fields.row_count + 1) (values_of columns.items) [] (λ column h.
      let inside : column < length fields.columns.items = omega (arith, e.count, length-values_of fields.columns.items) in
      rw (e.each column (omega (arith, length-values_of fields.columns.items)), length_push, height_stored fields stored column inside) refl);
  few = omega (arith, stored.few);
}

-- and that table has one more row
pub table_stored-pushed : (fields : Inside) (columns : Vec (Vec ℤ)) (row : List ℤ) → IsStored fields → IsExtended (values_of fields.columns.items)
    (values_of columns.items) row
    → length row ≡ length fields.names.items → table_stored (pushed fields columns) ≡ with_row (table_stored fields) row
table_stored-pushed fields columns row stored e width =
    ap (λ rows. record { names = fields.names.items; rows = rows }) (
    ap (rows_across (values_of columns.items)) (add-one fields.row_count)
    ∙ rows_across-IsExtended (values_of fields.columns.items) (values_of columns.items) row fields.row_count e
    (λ column h. height_stored fields stored column (omega (arith, length-values_of fields.columns.items)))
    (omega (arith, stored.columns, length-values_of fields.columns.items)))
