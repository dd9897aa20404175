-- A group side as a map from keys to totals, and the rows that it folds.
use Rattle.std.specs.Prelude.{◌≡◌, ◌⊎◌, ℕ, pos, ◌<◌, ◌==◌, Bool, List, [], ◌++◌, All, map, length}
use Rattle.std.specs.Prelude.{filter, slice_index_or, unsigned_abs}
use Rattle.std.specs.Int.{w64, int_rem_euclid}
use Rattle.std.specs.Int.RustNames.{FitsSigned}
use Rattle.plan_ast.specs.declared.queries.Func.{Func}
use Rattle.plan_ast.specs.declared.answers.AggValue.{AggValue}
use Rattle.build_sides.specs.FoldedRows.{FoldedRow, value_in, rows_with, total_of}
use Rattle.build_sides.specs.GroupTotals.{Totals, GroupTotals, no_totals, nothing_of}
use Rattle.build_sides.specs.Numbered.{AreDistinct, IsAbsent, item_at}
use Rattle.build_sides.specs.declared.key_table.Key.{Key}

-- the aggregates of a side
abbrev pub funcs_of : GroupTotals → List Func
funcs_of side = map (λ column. column.func) side.columns

-- the totals of the aggregate at this place
abbrev pub column_of : GroupTotals → ℕ → Totals
column_of side place = slice_index_or side.columns place no_totals

-- an aggregate's total of the group with this number
abbrev pub total_at : GroupTotals → ℕ → ℕ → AggValue
total_at side place number =
    slice_index_or (column_of side place).values number (nothing_of (column_of side place))

-- an aggregate's total of the group with this key, that of nothing if no group has it
abbrev pub total_in : GroupTotals → ℕ → Key → AggValue
total_in side place key =
    item_at (nothing_of (column_of side place)) side.keys (column_of side place).values key

-- the keys are all different, and each group has a total of each aggregate
pub record AreGroups (side : GroupTotals) : Type 0 where
  pub distinct : AreDistinct side.keys
  pub same : (place : ℕ) → place < length side.columns
      → length (column_of side place).values ≡ length side.keys

-- the values of a row are 64-bit numbers
abbrev pub FitsRow : FoldedRow → Type 0
FitsRow row = (place : ℕ) → FitsSigned w64 (value_in row place)

-- a side holds what its aggregates make of these rows, key by key, and has the keys of these rows
pub record Folds (rows : List FoldedRow) (side : GroupTotals) : Type 0 where
  pub totals : (place : ℕ) → place < length side.columns → (key : Key)
      → total_in side place key ≡ total_of (column_of side place).func place key rows
  pub absent : (key : Key) → IsAbsent side.keys key → rows_with key rows ≡ []
  pub present : (key : Key) → rows_with key rows ≡ [] → IsAbsent side.keys key
  pub fit : All FitsRow rows

-- a side folds these rows and, of each key, either all of some other rows or none
pub record FoldsSomeKeys (rows others : List FoldedRow) (side : GroupTotals) : Type 0 where
  pub taken : List FoldedRow
  pub each : (key : Key)
      → (rows_with key taken ≡ []) ⊎ (rows_with key taken ≡ rows_with key others)
  pub folds : Folds (rows ++ taken) side

-- the part of a key: the Euclidean remainder of its first value by 16
abbrev pub key_part : Key → ℕ
key_part key = unsigned_abs (int_rem_euclid key.first (pos 16))

abbrev pub is_in_part : ℕ → Key → Bool
is_in_part part key = key_part key == part

-- the rows of this part, in order
abbrev pub rows_in : ℕ → List FoldedRow → List FoldedRow
rows_in part rows = filter (λ row. is_in_part part row.key) rows
