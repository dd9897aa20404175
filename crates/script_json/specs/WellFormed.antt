-- The scripts that can be read and written.
use Rattle.std.specs.Prelude.{◌≡◌, ◌≢◌, ◌≤◌, length, All, AllPairs, IfSome, IsTrue, None}
use Rattle.col_table.specs.Name.{is_name}
use Rattle.plan_ast.specs.Bounds.{IsInBounds}
use Rattle.plan_ast.specs.declared.queries.NameRef.{NameRef}
use Rattle.plan_ast.specs.declared.queries.Filter.{Filter}
use Rattle.plan_ast.specs.declared.queries.Join.{Join}
use Rattle.plan_ast.specs.declared.queries.Agg.{Agg}
use Rattle.plan_ast.specs.declared.queries.Output.{Output}
use Rattle.plan_ast.specs.declared.queries.Output.TheVariants.{Rows, Totals, Groups}
use Rattle.plan_ast.specs.declared.queries.Query.{Query}
use Rattle.script_json.specs.Format.{first_early, is_file_name, is_i64}
use Rattle.script_json.specs.declared.script.TableEntry.{TableEntry}
use Rattle.script_json.specs.declared.script.Script.{Script}

-- a column of one of the three tables that a query may have
pub record IsReference (reference : NameRef) : Type 0 where
  pub side : reference.side ≤ 2
  pub name : IsTrue (is_name reference.name)

pub record IsFilter (filter : Filter) : Type 0 where
  pub column : IsTrue (is_name filter.column)
  pub value : IsTrue (is_i64 filter.value)

pub record IsJoin (join : Join) : Type 0 where
  pub table : IsTrue (is_name join.table)
  pub left : IsReference join.left
  pub right : IsTrue (is_name join.right)
  pub filters : All IsFilter join.filters

abbrev pub IsAgg : Agg → Type 0
IsAgg agg = IfSome agg.column IsReference

abbrev pub IsOutput : Output → Type 0
IsOutput (Rows columns) = All IsReference columns
IsOutput (Totals aggs) = All IsAgg aggs
IsOutput (Groups by aggs) = All IsReference by × All IsAgg aggs

-- a query that a script may have
pub record IsQuery (query : Query) : Type 0 where
  pub bounds : IsInBounds query
  pub scan : IsTrue (is_name query.scan)
  pub filters : All IsFilter query.filters
  pub joins : All IsJoin query.joins
  pub output : IsOutput query.output

pub record IsEntry (entry : TableEntry) : Type 0 where
  pub name : IsTrue (is_name entry.name)
  pub file : IsTrue (is_file_name entry.file)

-- a script that can be read and written
pub record IsScript (script : Script) : Type 0 where
  pub few_tables : length script.tables ≤ 8
  pub tables : All IsEntry script.tables
  pub names : AllPairs (λ a b. a.name ≢ b.name) script.tables
  pub few_queries : length script.queries ≤ 4096
  pub queries : All IsQuery script.queries
  pub after : first_early 0 0 script.queries ≡ None
