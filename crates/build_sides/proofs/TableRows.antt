-- Rows of a table as a group side folds them.
use Rattle.std.proofs.Common.{◌≡◌, ℕ, zero, suc, ℤ, pos, List, [], ◌∷◌, get_or, map, slice_index_or, refl}
use Rattle.col_table.specs.NamedRows.{NamedRows, value_in}
use Rattle.plan_ast.specs.declared.places.AggAt.{AggAt}
use Rattle.build_sides.specs.FoldedRows.{column_in, folded_value}

-- the value of a column at a place, also past the last row
pub column_at : (rows : List (List ℤ)) (column place : ℕ)
    → get_or (map (λ row. value_in row column) rows) place (pos 0) ≡ value_in (get_or rows place []) column
column_at [] column place = refl
column_at (row ∷ rows) column zero = refl
column_at (row ∷ rows) column (suc place) = column_at rows column place

-- the value that the aggregate at a place folds, also past the last one
pub agg_value : (table : NamedRows) (number : ℕ) (aggs : List AggAt) (place : ℕ)
    → slice_index_or (map (λ agg. folded_value table number agg.column) aggs) place (pos 0) ≡ folded_value table number (column_in aggs place)
agg_value table number [] place = refl
agg_value table number (agg ∷ aggs) zero = refl
agg_value table number (agg ∷ aggs) (suc place) = agg_value table number aggs place
