-- How values lie column by column.
use Rattle.std.specs.Prelude.{ℕ, zero, suc, ℤ, ◌≡◌, ◌<◌, List, [], ◌∷◌, ◌++◌, length, map}
use Rattle.std.specs.Prelude.{slice_index_or, vec_len, vec_capacity}
use Rattle.std.specs.Global.{Vec}
use Rattle.col_table.specs.NamedRows.{value_in}

-- the values of each column
abbrev pub values_of : List (Vec ℤ) → List (List ℤ)
values_of columns = map (λ column. column.items) columns

-- the values of the columns at one place
abbrev pub row_across : List (List ℤ) → ℕ → List ℤ
row_across columns place = map (λ column. value_in column place) columns

-- the rows before a place
abbrev pub rows_across : List (List ℤ) → ℕ → List (List ℤ)
rows_across columns zero = []
rows_across columns (suc place) = rows_across columns place ++ row_across columns place ∷ []

-- there is room for one more value
abbrev pub HasRoom : Vec ℤ → Type 0
HasRoom column = vec_len column < vec_capacity column

-- each column has one more value, which a row gives
pub record IsExtended (old new : List (List ℤ)) (row : List ℤ) : Type 0 where
  pub count : length new ≡ length old
  pub each : (place : ℕ) → place < length old →
      slice_index_or new place [] ≡ slice_index_or old place [] ++ value_in row place ∷ []
