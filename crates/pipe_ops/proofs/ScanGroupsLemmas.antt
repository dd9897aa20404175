-- Rows of one table as a group side folds them, each a joined row by itself.
use Rattle.std.proofs.Common.{◌≡◌, ℕ, ◌+◌, ◌^◌, ◌≤◌, List, [], ◌∷◌, ◌++◌, All, None, Option, Some, get_or, length, map, refl, sym}
use Rattle.std.proofs.Common.{ap, ◌∙◌, subst, arith}
use Rattle.std.specs.Prelude.{IfSome}
use Rattle.std.proofs.lemmas.List.{length-map}
use Rattle.std.proofs.lemmas.List.Elements.{All-head, All-tail}
use Rattle.col_table.specs.NamedRows.{NamedRows, value_in}
use Rattle.plan_ast.specs.declared.places.AggAt.{AggAt}
use Rattle.plan_ast.specs.declared.places.ColumnAt.{ColumnAt}
use Rattle.build_sides.specs.FoldedRows.{FoldedRow, folded_at, folded_value, group_key_of}
use Rattle.build_sides.specs.GroupSides.{Folds}
use Rattle.build_sides.specs.GroupTotals.{GroupTotals}
use Rattle.pipe_ops.specs.Folding.{singles_at, values_at}
use Rattle.pipe_ops.specs.Placed.{IsAggOf, IsColumnOf, folded_value_at, row_at, side_at, value_at}
use Rattle.pipe_ops.specs.StagePlaces.{FoldsMore, folded_row_at}
use Rattle.pipe_ops.specs.Taking.{AreGroupColumns}
use Rattle.pipe_ops.proofs.ChunkLemmas.{one_side}

-- the value of a joined row of one table
alone : (table : NamedRows) (n : ℕ) (at : ColumnAt) → IsColumnOf (table ∷ []) at → value_in (row_at table n) at.column ≡ value_at at (row_at table n ∷ [])
alone table n at of =
    let first : 0 ≡ at.side = omega (arith, of.side) in
    ap (λ s. value_in (get_or (row_at table n ∷ []) s []) at.column) first

keys_alone : (table : NamedRows) (n : ℕ) (by : List ColumnAt) → All (IsColumnOf (table ∷ [])) by
    → map (λ at. value_in (row_at table n) at.column) by ≡ values_at by (row_at table n ∷ [])
keys_alone table n [] of = refl
keys_alone table n (at ∷ by) of =
    ap (λ v. v ∷ map (λ (a : ColumnAt). value_in (row_at table n) a.column) by) (alone table n at (All-head (IsColumnOf (table ∷ [])) at by of))
    ∙ ap (λ l. value_at at (row_at table n ∷ []) ∷ l) (keys_alone table n by (All-tail (IsColumnOf (table ∷ [])) at by of))

value_alone : (table : NamedRows) (n : ℕ) (column : Option ColumnAt) → IfSome column (IsColumnOf (table ∷ []))
    → folded_value table n column ≡ folded_value_at column (row_at table n ∷ [])
value_alone table n None of = refl
value_alone table n (Some at) of = alone table n at of

values_alone : (table : NamedRows) (n : ℕ) (aggs : List AggAt) → All (IsAggOf (table ∷ [])) aggs
    → map (λ agg. folded_value table n agg.column) aggs ≡ map (λ agg. folded_value_at agg.column (row_at table n ∷ [])) aggs
values_alone table n [] of = refl
values_alone table n (agg ∷ aggs) of =
    ap (λ v. v ∷ map (λ (a : AggAt). folded_value table n a.column) aggs)
    (value_alone table n agg.column (All-head (IsAggOf (table ∷ [])) agg aggs of))
    ∙ ap (λ l. folded_value_at agg.column (row_at table n ∷ []) ∷ l) (values_alone table n aggs (All-tail (IsAggOf (table ∷ [])) agg aggs of))

folded_alone : (table : NamedRows) (n : ℕ) (by : List ColumnAt) (aggs : List AggAt) → All (IsColumnOf (table ∷ [])) by → All (IsAggOf (table ∷ [])) aggs
    → folded_at table by aggs n ≡ folded_row_at by aggs (row_at table n ∷ [])
folded_alone table n by aggs keys values =
    ap (λ l. record { key = group_key_of l; values = map (λ (a : AggAt). folded_value table n a.column) aggs }) (keys_alone table n by keys)
    ∙ ap (λ l. record { key = group_key_of (values_at by (row_at table n ∷ [])); values = l }) (values_alone table n aggs values)

-- rows by their numbers are their joined rows
pub folded_singles : (table : NamedRows) (by : List ColumnAt) (aggs : List AggAt) (rows : List ℕ) → All (IsColumnOf (table ∷ [])) by
    → All (IsAggOf (table ∷ [])) aggs → map (folded_at table by aggs) rows ≡ map (folded_row_at by aggs) (singles_at table rows)
folded_singles table by aggs [] keys values = refl
folded_singles table by aggs (n ∷ rows) keys values =
    ap (λ r. r ∷ map (folded_at table by aggs) rows) (folded_alone table n by aggs keys values)
    ∙ ap (λ l. folded_row_at by aggs (row_at table n ∷ []) ∷ l) (folded_singles table by aggs rows keys values)

-- ---- many rows

-- these rows of a table as a group side folds them
abbrev pub rows_folded : NamedRows → List ColumnAt → List AggAt → List ℕ → List FoldedRow
rows_folded table by aggs rows = map (folded_row_at by aggs) (singles_at table rows)

count_folded : (table : NamedRows) (by : List ColumnAt) (aggs : List AggAt) (rows : List ℕ) → length (rows_folded table by aggs rows) ≡ length rows
count_folded table by aggs rows =
    length-map (singles_at table rows) (folded_row_at by aggs) ∙ length-map rows (λ number. row_at table number ∷ [])

-- the columns of groups, where the one side is this table
pub groups_alone : (sides : List NamedRows) (table : NamedRows) (by : List ColumnAt) (aggs : List AggAt) → length sides ≡ 1 → table ≡ side_at sides 0
    → AreGroupColumns sides by aggs → AreGroupColumns (table ∷ []) by aggs
groups_alone sides table by aggs one is are =
    subst (λ (t : NamedRows). AreGroupColumns (t ∷ []) by aggs) (sym is)
    (subst (λ (s : List NamedRows). AreGroupColumns s by aggs) (one_side sides one) are)

-- a side that folds rows by their numbers folds their joined rows
pub table_folds : (table : NamedRows) (by : List ColumnAt) (aggs : List AggAt) (rows : List ℕ) (old new : GroupTotals)
    → AreGroupColumns (table ∷ []) by aggs
    → ((done : List FoldedRow) → length done + length rows ≤ 2 ^ 62 → Folds done old → Folds (done ++ map (folded_at table by aggs) rows) new)
    → FoldsMore (rows_folded table by aggs rows) old new
table_folds table by aggs rows old new are folds = λ done few holds.
    subst (λ l. Folds (done ++ l) new) (folded_singles table by aggs rows are.by_columns are.aggs)
    (folds done (omega (arith, few, count_folded table by aggs rows)) holds)
