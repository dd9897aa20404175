-- What a run is about.
use Rattle.std.specs.Prelude.{List}
use Rattle.plan_ast.specs.declared.queries.NamedTable.{NamedTable}
use Rattle.plan_ast.specs.declared.queries.Query.{Query}

-- the tables and the queries of a script
pub record Subject : Type 0 where
  pub tables : List NamedTable
  pub queries : List Query
