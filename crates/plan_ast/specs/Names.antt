-- The names in a query, and which of them are there.
use Rattle.std.specs.Prelude.{ℕ, List, [], ◌∷◌, ◌++◌, map, flat_map, Bool, not, is_some, Option}
use Rattle.std.specs.Prelude.{option_map, option_and_then, option_to_list, find, position, bytes_eq}
use Rattle.std.specs.Prelude.{slice_get}
use Rattle.std.specs.Option.{option_map_or}
use Rattle.col_table.specs.NamedRows.{NamedRows, no_rows}
use Rattle.plan_ast.specs.declared.queries.NameRef.{NameRef}
use Rattle.plan_ast.specs.declared.queries.Filter.{Filter}
use Rattle.plan_ast.specs.declared.queries.Join.{Join}
use Rattle.plan_ast.specs.declared.queries.Agg.{Agg}
use Rattle.plan_ast.specs.declared.queries.Output.{Output}
use Rattle.plan_ast.specs.declared.queries.Output.TheVariants.{Rows, Totals, Groups}
use Rattle.plan_ast.specs.declared.queries.NamedTable.{NamedTable}
use Rattle.plan_ast.specs.declared.queries.Query.{Query}
use Rattle.plan_ast.specs.declared.refusals.PlanRefusal.{PlanRefusal}
use Rattle.plan_ast.specs.declared.refusals.PlanRefusal.TheVariants.{UnknownTable, UnknownColumn}

-- the place of the table of this name
abbrev pub table_place : List NamedTable → List ℕ → Option ℕ
table_place tables name = position (λ t. bytes_eq t.name name) tables

-- the table of this name, or one of no columns where none has it
abbrev pub table_named : List NamedTable → List ℕ → NamedRows
table_named tables name =
    let found = option_and_then (slice_get tables) (table_place tables name) in
    option_map_or (λ t. t.table) found (no_rows [])

-- the place of the column of this name
abbrev pub column_place : NamedRows → List ℕ → Option ℕ
column_place table name = position (λ n. bytes_eq n name) table.names

-- where the column that a reference names stands in its side's table
abbrev pub column_in : List NamedRows → NameRef → Option ℕ
column_in sides ref =
    option_and_then (λ side. column_place side ref.name) (slice_get sides ref.side)

-- a name that a query mentions: a table's, or a column's of one of the sides so far, of which the
-- scanned table is the first
pub data Mention : Type 0 where
  of_table : List ℕ → Mention
  of_column : List NamedRows → NameRef → Mention

abbrev pub is_there : List NamedTable → Mention → Bool
is_there tables (of_table name) = is_some (table_place tables name)
is_there tables (of_column sides ref) = is_some (column_in sides ref)

-- the mention of a column of this one table
abbrev pub own_column : NamedRows → List ℕ → Mention
own_column table name = of_column (table ∷ []) (record { side = 0; name = name })

abbrev pub filter_mentions : NamedRows → List Filter → List Mention
filter_mentions table filters = map (λ f. own_column table f.column) filters

-- the columns that a join mentions: the one to its left, among the sides before it, and of its own
-- table the one to its right and those of its filters
abbrev pub join_columns : List NamedRows → NamedRows → Join → List Mention
join_columns sides table join =
    of_column sides join.left
    ∷ own_column table join.right
    ∷ filter_mentions table join.filters

abbrev pub join_mentions : List NamedTable → List NamedRows → Join → List Mention
join_mentions tables sides join =
    of_table join.table ∷ join_columns sides (table_named tables join.table) join

abbrev pub joins_mentions : List NamedTable → List NamedRows → List Join → List Mention
joins_mentions tables sides [] = []
joins_mentions tables sides (join ∷ joins) =
    join_mentions tables sides join
    ++ joins_mentions tables (sides ++ table_named tables join.table ∷ []) joins

abbrev pub agg_mention : List NamedRows → Agg → List Mention
agg_mention sides agg = option_to_list (option_map (of_column sides) agg.column)

abbrev pub agg_mentions : List NamedRows → List Agg → List Mention
agg_mentions sides aggs = flat_map (agg_mention sides) aggs

abbrev pub output_mentions : List NamedRows → Output → List Mention
output_mentions sides (Rows columns) = map (of_column sides) columns
output_mentions sides (Totals aggs) = agg_mentions sides aggs
output_mentions sides (Groups by aggs) = map (of_column sides) by ++ agg_mentions sides aggs

abbrev pub join_tables : List Join → List (List ℕ)
join_tables joins = map (λ j. j.table) joins

-- the names of a query's tables, the scanned one first
abbrev pub side_names : Query → List (List ℕ)
side_names query = query.scan ∷ join_tables query.joins

-- the sides of a query: its tables, the scanned one first
abbrev pub sides_of : List NamedTable → Query → List NamedRows
sides_of tables query = map (table_named tables) (side_names query)

-- the names that a query mentions, in the order in which they are checked
abbrev pub mentions_of : List NamedTable → Query → List Mention
mentions_of tables query =
    let scanned = table_named tables query.scan in
    of_table query.scan
    ∷ filter_mentions scanned query.filters
    ++ joins_mentions tables (scanned ∷ []) query.joins
    ++ output_mentions (sides_of tables query) query.output

abbrev pub refusal_for : Mention → PlanRefusal
refusal_for (of_table name) = UnknownTable name
refusal_for (of_column sides ref) = UnknownColumn ref.name

-- the refusal of the first of these mentions that isn't there
abbrev pub first_missing : List NamedTable → List Mention → Option PlanRefusal
first_missing tables mentions =
    option_map refusal_for (find (λ m. not (is_there tables m)) mentions)

-- the refusal of a query: that of the first name in it that isn't there
abbrev pub refusal_of : List NamedTable → Query → Option PlanRefusal
refusal_of tables query = first_missing tables (mentions_of tables query)
