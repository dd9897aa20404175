-- Checked queries.
use Rattle.std.specs.Prelude.{List}
use Rattle.plan_ast.specs.Bounds.{IsInBounds}
use Rattle.plan_ast.specs.Places.{ArePlacesOf}
use Rattle.plan_ast.specs.declared.queries.NamedTable.{NamedTable}
use Rattle.plan_ast.specs.declared.queries.Query.{Query}
use Rattle.plan_ast.specs.declared.places.Places.{Places}
use Rattle.plan_ast.specs.declared.checks.Checked.{Checked}

-- the query of a checked query
abbrev pub query_of : Checked → Query
query_of checked = checked.query

-- where its names stand
abbrev pub places_of : Checked → Places
places_of checked = checked.places

-- what `check` gives for these tables: a query within its limits, and the places of its names
pub record IsCheckedFor (tables : List NamedTable) (checked : Checked) : Type 0 where
  pub bounds : IsInBounds (query_of checked)
  pub places : ArePlacesOf tables (query_of checked) (places_of checked)
