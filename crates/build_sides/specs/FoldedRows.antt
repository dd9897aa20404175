-- Rows that are folded by their key, and the total that an aggregate makes of them.
use Rattle.std.specs.Prelude.{ℕ, ℤ, pos, Bool, List, Option, Some, None, map, filter}
use Rattle.std.specs.Prelude.{slice_index_or, if◌then◌else◌}
use Rattle.col_table.specs.NamedRows.{NamedRows, value_at}
use Rattle.plan_ast.specs.Answer.{aggregate}
use Rattle.plan_ast.specs.declared.queries.Func.{Func}
use Rattle.plan_ast.specs.declared.answers.AggValue.{AggValue}
use Rattle.plan_ast.specs.declared.places.AggAt.{AggAt}
use Rattle.plan_ast.specs.declared.places.ColumnAt.{ColumnAt}
use Rattle.build_sides.specs.Numbered.{same_key}
use Rattle.build_sides.specs.declared.key_table.Key.{Key}

-- a row as a group folds it: its key, and a value for each aggregate
pub record FoldedRow : Type 0 where
  pub key : Key
  pub values : List ℤ

-- the key of one or two values: that of one value is the pair of it and 0
abbrev pub group_key_of : List ℤ → Key
group_key_of values = record {
  first = slice_index_or values 0 (pos 0);
  second = slice_index_or values 1 (pos 0);
}

-- the row of these values
abbrev pub row_of : List ℤ → List ℤ → FoldedRow
row_of key values = record { key = group_key_of key; values = values }

-- the value that the aggregate at this place folds
abbrev pub value_in : FoldedRow → ℕ → ℤ
value_in row place = slice_index_or row.values place (pos 0)

-- the rows with this key, in order
abbrev pub rows_with : Key → List FoldedRow → List FoldedRow
rows_with key rows = filter (λ row. same_key row.key key) rows

-- what an aggregate, at this place of each row's values, makes of the rows with this key
abbrev pub total_of : Func → ℕ → Key → List FoldedRow → AggValue
total_of func place key rows = aggregate func (map (λ row. value_in row place) (rows_with key rows))

-- the value of a table's row that an aggregate folds, 0 if it has no column
abbrev pub folded_value : NamedRows → ℕ → Option ColumnAt → ℤ
folded_value table number None = pos 0
folded_value table number (Some at) = value_at table number at.column

-- the column of the aggregate at this place, if it has one
abbrev pub column_in : List AggAt → ℕ → Option ColumnAt
column_in aggs place = slice_index_or (map (λ agg. agg.column) aggs) place None

-- the key of a table's row by these columns
abbrev pub key_by : NamedRows → List ColumnAt → ℕ → Key
key_by table by number = group_key_of (map (λ at. value_at table number at.column) by)

-- the values of a table's row that the aggregates fold
abbrev pub values_by : NamedRows → List AggAt → ℕ → List ℤ
values_by table aggs number = map (λ agg. folded_value table number agg.column) aggs

-- a table's row as a group folds it
abbrev pub folded_at : NamedRows → List ColumnAt → List AggAt → ℕ → FoldedRow
folded_at table by aggs number =
    record { key = key_by table by number; values = values_by table aggs number }

-- the key of a row in one column, or in two if it is a pair
abbrev pub row_key : List ℤ → List ℤ → Bool → ℕ → Key
row_key first second pair row = record {
  first = slice_index_or first row (pos 0);
  second = if pair then slice_index_or second row (pos 0) else pos 0;
}
