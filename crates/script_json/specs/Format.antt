-- The format of scripts, version 1: what each JSON value stands for at its place, or its first
-- refusal; and the value that is written for each part of a script.
use Rattle.std.specs.Prelude.{ℕ, ◌+◌, ◌^◌, ℤ, pos, negsuc, List, [], ◌∷◌, length, codes, Bool, true}
use Rattle.std.specs.Prelude.{false, not, ◌&&◌, ◌==◌, nat_le, nat_lt, nat_eq, bytes_eq, is_some}
use Rattle.std.specs.Prelude.{Option, Some, None, option_map, find, option_and_then, if◌then◌else◌}
use Rattle.std.specs.Prelude.{Ok, Err, ⊤}
use Rattle.std.specs.List.{list_any}
use Rattle.std.specs.Option.{option_map_or}
use Rattle.serde_json.specs.Data.{Data, Items, array, item, no_items, number, string, unsigned}
use Rattle.serde_json.specs.Find.{get, as_array, as_object, as_number, as_str, as_i64, as_u64}
use Rattle.serde_json.specs.Find.{of_integer}
use Rattle.col_table.specs.Name.{is_name, is_plain}
use Rattle.plan_ast.specs.Stages.{stages_of}
use Rattle.plan_ast.specs.declared.queries.Op.{Op}
use Rattle.plan_ast.specs.declared.queries.Op.TheVariants.{Eq, Ne, Lt, Le, Gt, Ge}
use Rattle.plan_ast.specs.declared.queries.Func.{Func}
use Rattle.plan_ast.specs.declared.queries.Func.TheVariants.{Count, Sum, Min, Max}
use Rattle.plan_ast.specs.declared.queries.NameRef.{NameRef}
use Rattle.plan_ast.specs.declared.queries.Filter.{Filter}
use Rattle.plan_ast.specs.declared.queries.Join.{Join}
use Rattle.plan_ast.specs.declared.queries.Agg.{Agg}
use Rattle.plan_ast.specs.declared.queries.Output.{Output}
use Rattle.plan_ast.specs.declared.queries.Output.TheVariants.{Rows, Totals, Groups}
use Rattle.plan_ast.specs.declared.queries.Query.{Query}
use Rattle.script_json.specs.Forms.{Reading, Form, ◌>>=◌, ◌>>◌, or_refuse, refuse_if, under}
use Rattle.script_json.specs.Forms.{wrong_shape, wrong_number, twice_named, object_of, required}
use Rattle.script_json.specs.Forms.{array_of, whole, text_of, word_of}
use Rattle.script_json.specs.Objects.{Layout, ◌&◌, array_with, built_by, may, must, object_with}
use Rattle.script_json.specs.Objects.{reads_object}
use Rattle.script_json.specs.Objects.{written_object}
use Rattle.script_json.specs.declared.refusal.PathStep.TheVariants.{At}
use Rattle.script_json.specs.declared.refusal.ScriptRefusal.TheVariants.{VersionUnknown}
use Rattle.script_json.specs.declared.refusal.ScriptRefusal.TheVariants.{AfterTooLarge}
use Rattle.script_json.specs.declared.script.TableEntry.{TableEntry}
use Rattle.script_json.specs.declared.script.Script.{Script}

-- ---- texts and words

-- the name of a file: 1 to 255 bytes
abbrev pub is_file_name : List ℕ → Bool
is_file_name bytes = nat_le 1 (length bytes) && nat_le (length bytes) 255 && is_plain bytes

-- the name of a table or a column
abbrev pub name : Form (List ℕ)
name value = text_of is_name value

abbrev pub file_name : Form (List ℕ)
file_name value = text_of is_file_name value

-- the meaning of a word, among words with their meanings
abbrev pub named : {A : Type 0} → List (List ℕ × A) → List ℕ → Option A
named words bytes = option_map (λ word. word.1) (find (λ word. bytes_eq word.0 bytes) words)

abbrev pub operator_named : List ℕ → Option Op
operator_named = named (
    (codes "=", Eq) ∷ (codes "<>", Ne) ∷ (codes "<", Lt) ∷
    (codes "<=", Le) ∷ (codes ">", Gt) ∷ (codes ">=", Ge) ∷ [])

-- the word that is written for an operator
abbrev pub operator_word : Op → List ℕ
operator_word Eq = codes "="
operator_word Ne = codes "<>"
operator_word Lt = codes "<"
operator_word Le = codes "<="
operator_word Gt = codes ">"
operator_word Ge = codes ">="

-- the functions of a column
abbrev pub function_named : List ℕ → Option Func
function_named = named ((codes "sum", Sum) ∷ (codes "min", Min) ∷ (codes "max", Max) ∷ [])

-- the word that is written for a function
abbrev pub function_word : Func → List ℕ
function_word Count = codes "count"
function_word Sum = codes "sum"
function_word Min = codes "min"
function_word Max = codes "max"

abbrev pub operator : Form Op
operator value = word_of operator_named value

abbrev pub function : Form Func
function value = word_of function_named value

-- whether a number has 64 bits with a sign
abbrev pub is_i64 : ℤ → Bool
is_i64 (pos n) = nat_lt n (2 ^ 63)
is_i64 (negsuc n) = nat_lt n (2 ^ 63)

abbrev pub any_number : Form ℤ
any_number value = do
  written ← or_refuse wrong_shape (as_number value)
  n ← or_refuse wrong_number (as_i64 written)
  refuse_if (not (is_i64 n)) wrong_number
  Ok n

-- ---- the parts of a query

-- `col`, `op` and `value` are all required
abbrev pub filter_layout : Layout Filter Filter Filter
filter_layout =
    built_by (λ column op bound. record { column = column; op = op; value = bound })
    & must (codes "col") name (λ filter. string filter.column)
    & must (codes "op") operator (λ filter. string (operator_word filter.op))
    & must (codes "value") any_number (λ filter. number (of_integer filter.value))

abbrev pub filter : Form Filter
filter value = reads_object filter_layout value

abbrev pub filter_value : Filter → Data
filter_value filter = written_object filter_layout filter

-- 0 to 16 filters
abbrev pub filters : Form (List Filter)
filters value = array_of 0 16 (λ _. filter) value

-- a side and a name: a column of a join's table
abbrev pub joined_column : Data → Data → Reading NameRef
joined_column first second = do
  side ← under (At 0) (whole 1 2 first)
  column ← under (At 1) (name second)
  Ok (record { side = side; name = column })

-- `[1, "k"]` and `[2, "k"]` are columns of that join's table; a text alone is a column of the
-- scanned table
abbrev pub reference_among : Option Items → Form NameRef
reference_among None value = do
  column ← name value
  Ok (record { side = 0; name = column })
reference_among (Some (item first (item second no_items))) value = joined_column first second
reference_among (Some _) value = Err wrong_shape

abbrev pub reference : Form NameRef
reference value = reference_among (as_array value) value

-- a column of the scanned table is written as a text, and one of a join's table with its side
abbrev pub reference_value : NameRef → Data
reference_value reference =
    if reference.side == 0 then string reference.name
    else array (item (number (unsigned reference.side)) (item (string reference.name) no_items))

-- `table`, `left` and `right` are required
abbrev pub join_layout : Layout Join Join Join
join_layout =
    built_by (λ table left right passed.
    record { table = table; left = left; right = right; filters = passed })
    & must (codes "table") name (λ join. string join.table)
    & must (codes "left") reference (λ join. reference_value join.left)
    & must (codes "right") name (λ join. string join.right)
    & may (codes "where") [] filters (λ join. array_with filter_value join.filters)

abbrev pub join : Form Join
join value = reads_object join_layout value

abbrev pub join_value : Join → Data
join_value join = written_object join_layout join

-- 0 to 2 joins
abbrev pub joins : Form (List Join)
joins value = array_of 0 2 (λ _. join) value

-- whether `fn` is `count`, which has no column
abbrev pub counts : Data → Bool
counts value =
    option_map_or (bytes_eq (codes "count")) (option_and_then as_str (get (codes "fn") value)) false

-- a count knows no key but `fn`
abbrev pub count_of_rows : Form Agg
count_of_rows value = do
  object_of (codes "fn" ∷ []) value
  Ok (record { func = Count; column = None })

-- every other aggregate has a column
abbrev pub function_layout : Layout (Func × NameRef) Agg Agg
function_layout =
    built_by (λ func column. record { func = func; column = Some column })
    & must (codes "fn") function (λ agg. string (function_word agg.0))
    & must (codes "col") reference (λ agg. reference_value agg.1)

abbrev pub function_of_column : Form Agg
function_of_column value = reads_object function_layout value

abbrev pub aggregate : Form Agg
aggregate value = if counts value then count_of_rows value else function_of_column value

-- what is written for a function, with its column if it has one
abbrev pub aggregate_of : Func → Option NameRef → Data
aggregate_of func None = object_with (codes "fn") (string (function_word func))
aggregate_of func (Some column) = written_object function_layout (func, column)

abbrev pub aggregate_value : Agg → Data
aggregate_value agg = aggregate_of agg.func agg.column

-- 1 to `most` columns
abbrev pub references : ℕ → Form (List NameRef)
references most value = array_of 1 most (λ _. reference) value

-- 1 to 8 aggregates
abbrev pub aggregates : Form (List Agg)
aggregates value = array_of 1 8 (λ _. aggregate) value

-- `by` and `aggs` are required
abbrev pub groups_layout : Layout (List NameRef × List Agg) Output Output
groups_layout =
    built_by Groups
    & must (codes "by") (references 2) (λ groups. array_with reference_value groups.0)
    & must (codes "aggs") aggregates (λ groups. array_with aggregate_value groups.1)

abbrev pub groups : Form Output
groups value = reads_object groups_layout value

abbrev pub output_keys : List (List ℕ)
output_keys = codes "rows" ∷ codes "totals" ∷ codes "groups" ∷ []

abbrev pub rows_of : Form Output
rows_of value = do
  object_of output_keys value
  columns ← required (codes "rows") (references 8) value
  Ok (Rows columns)

abbrev pub totals_of : Form Output
totals_of value = do
  object_of output_keys value
  aggs ← required (codes "totals") aggregates value
  Ok (Totals aggs)

abbrev pub groups_of : Form Output
groups_of value = do
  object_of output_keys value
  required (codes "groups") groups value

-- by which of `rows`, `totals` and `groups` an output has: exactly one
abbrev pub output_among : Bool → Bool → Bool → Form Output
output_among true false false value = rows_of value
output_among false true false value = totals_of value
output_among false false true value = groups_of value
output_among _ _ _ value = Err wrong_shape

abbrev pub has : List ℕ → Data → Bool
has key value = is_some (get key value)

-- an object with exactly one of `rows`, `totals` and `groups`
abbrev pub output : Form Output
output value =
    output_among (has (codes "rows") value) (has (codes "totals") value)
    (has (codes "groups") value) value

abbrev pub output_value : Output → Data
output_value (Rows columns) = object_with (codes "rows") (array_with reference_value columns)
output_value (Totals aggs) = object_with (codes "totals") (array_with aggregate_value aggs)
output_value (Groups by aggs) =
    object_with (codes "groups") (written_object groups_layout (by, aggs))

-- `scan` and `output` are required, and the others have defaults
abbrev pub query_layout : Layout Query Query Query
query_layout =
    built_by (λ after weight cost scan passed joined put_out. record {
      after = after;
      weight = weight;
      cost = cost;
      scan = scan;
      filters = passed;
      joins = joined;
      output = put_out;
    })
    & may (codes "after") 0 (whole 0 16384) (λ query. number (unsigned query.after))
    & may (codes "weight") 10 (whole 1 10) (λ query. number (unsigned query.weight))
    & may (codes "cost") 100 (whole 1 1000000) (λ query. number (unsigned query.cost))
    & must (codes "scan") name (λ query. string query.scan)
    & may (codes "where") [] filters (λ query. array_with filter_value query.filters)
    & may (codes "joins") [] joins (λ query. array_with join_value query.joins)
    & must (codes "output") output (λ query. output_value query.output)

abbrev pub query : Form Query
query value = reads_object query_layout value

abbrev pub query_value : Query → Data
query_value query = written_object query_layout query

-- ---- the tables

-- a name that no earlier table has
abbrev pub new_name : List TableEntry → Form (List ℕ)
new_name earlier value = do
  bytes ← name value
  refuse_if (list_any (λ entry. bytes_eq entry.name bytes) earlier) twice_named
  Ok bytes

-- `name` and `file` are required
abbrev pub entry_layout : List TableEntry → Layout TableEntry TableEntry TableEntry
entry_layout earlier =
    built_by (λ title file. record { name = title; file = file })
    & must (codes "name") (new_name earlier) (λ entry. string entry.name)
    & must (codes "file") file_name (λ entry. string entry.file)

abbrev pub table_entry : List TableEntry → Form TableEntry
table_entry earlier value = reads_object (entry_layout earlier) value

abbrev pub entry_value : TableEntry → Data
entry_value entry = written_object (entry_layout []) entry

-- ---- the script

-- the number 1
abbrev pub version : Form ⊤
version value = do
  written ← or_refuse wrong_shape (as_number value)
  refuse_if (not (option_map_or (nat_eq 1) (as_u64 written) false)) VersionUnknown

-- the first of the queries from place `n` on that waits for more task sets than all before it have
abbrev pub first_early : ℕ → ℕ → List Query → Option ℕ
first_early n before [] = None
first_early n before (q ∷ queries) =
    if nat_lt before q.after then Some n else first_early (n + 1) (before + stages_of q) queries

abbrev pub refuse_early : Option ℕ → Reading ⊤
refuse_early None = Ok tt
refuse_early (Some n) = Err (AfterTooLarge n)

-- `version`, `tables` and `queries` are required. A later version adds its members here.
abbrev pub script_layout : Layout Script Script Script
script_layout =
    built_by (λ known tables queries. record { tables = tables; queries = queries })
    & must (codes "version") version (λ script. number (unsigned 1))
    & must (codes "tables") (array_of 0 8 table_entry)
    (λ script. array_with entry_value script.tables)
    & must (codes "queries") (array_of 0 4096 (λ _. query))
    (λ script. array_with query_value script.queries)

-- `version` is read before all else, even before the keys, and the queries' `after` last
abbrev pub script : Form Script
script value = do
  or_refuse wrong_shape (as_object value)
  required (codes "version") version value
  read ← reads_object script_layout value
  refuse_early (first_early 0 0 read.queries)
  Ok read

abbrev pub script_value : Script → Data
script_value script = written_object script_layout script
