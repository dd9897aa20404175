-- The fields of a table.
use Rattle.std.specs.Prelude.{◌≡◌, ◌≤◌, length, All}
use Rattle.col_table.specs.Columns.{rows_across, values_of}
use Rattle.col_table.specs.NamedRows.{IsHeading, NamedRows}
use Rattle.col_table.specs.declared.table.Table.TheInside.{Inside}
use Rattle.col_table.specs.declared.table.TheConstants.{MAX_ROWS}

-- the table that the fields are
abbrev pub table_stored : Inside → NamedRows
table_stored fields = record {
  names = fields.names.items;
  rows = rows_across (values_of fields.columns.items) fields.row_count;
}

-- what the fields keep
pub record IsStored (fields : Inside) : Type 0 where
  pub heading : IsHeading fields.names.items
  pub columns : length fields.columns.items ≡ length fields.names.items
  pub heights : All (λ values. length values ≡ fields.row_count) (values_of fields.columns.items)
  pub few : fields.row_count ≤ MAX_ROWS
