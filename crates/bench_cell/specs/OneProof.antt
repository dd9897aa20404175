-- That a query is checked for its tables has at most one proof.
use Rattle.std.specs.Prelude.{List, [], ◌∷◌, ◌++◌}
use Rattle.std.specs.Coded.{×_prop, Unit-prop}
use Rattle.std.proofs.Props.{props}
use Rattle.col_table.specs.NamedRows.{NamedRows}
use Rattle.plan_ast.specs.Bounds.{IsOutputInBounds}
use Rattle.plan_ast.specs.Names.{table_named}
use Rattle.plan_ast.specs.Places.{AreJoinsAt, IsJoinAt, IsOutputAt}
use Rattle.plan_ast.specs.declared.places.JoinAt.{JoinAt}
use Rattle.plan_ast.specs.declared.places.OutputAt.{OutputAt}
use Rattle.plan_ast.specs.declared.places.OutputAt.TheVariants as placed
use Rattle.plan_ast.specs.declared.queries.Join.{Join}
use Rattle.plan_ast.specs.declared.queries.NamedTable.{NamedTable}
use Rattle.plan_ast.specs.declared.queries.Output.{Output}
use Rattle.plan_ast.specs.declared.queries.Output.TheVariants as named

pub IsOutputInBounds-prop : (output : Output) → IsProp (IsOutputInBounds output)
IsOutputInBounds-prop (named.Rows columns) = Prim.hlevel props
IsOutputInBounds-prop (named.Totals aggs) = Prim.hlevel props
IsOutputInBounds-prop (named.Groups by aggs) = Prim.hlevel props

pub IsJoinAt-prop : (sides : List NamedRows) (table : NamedRows) (join : Join) (at : JoinAt)
    → IsProp (IsJoinAt sides table join at)
IsJoinAt-prop sides table join at = Prim.hlevel props

pub AreJoinsAt-prop : (tables : List NamedTable) (sides : List NamedRows) (joins : List Join)
    (ats : List JoinAt) → IsProp (AreJoinsAt tables sides joins ats)
AreJoinsAt-prop tables sides [] [] = Unit-prop
AreJoinsAt-prop tables sides [] (at ∷ ats) = Prim.hlevel props
AreJoinsAt-prop tables sides (join ∷ joins) [] = Prim.hlevel props
AreJoinsAt-prop tables sides (join ∷ joins) (at ∷ ats) =
    let table : NamedRows = table_named tables join.table in
    ×_prop (IsJoinAt-prop sides table join at)
    (AreJoinsAt-prop tables (sides ++ table ∷ []) joins ats)

pub IsOutputAt-prop : (sides : List NamedRows) (output : Output) (at : OutputAt)
    → IsProp (IsOutputAt sides output at)
IsOutputAt-prop sides (named.Rows columns) (placed.Rows ats) = Prim.hlevel props
IsOutputAt-prop sides (named.Rows columns) (placed.Totals ats) = Prim.hlevel props
IsOutputAt-prop sides (named.Rows columns) (placed.Groups keys ats) = Prim.hlevel props
IsOutputAt-prop sides (named.Totals aggs) (placed.Rows ats) = Prim.hlevel props
IsOutputAt-prop sides (named.Totals aggs) (placed.Totals ats) = Prim.hlevel props
IsOutputAt-prop sides (named.Totals aggs) (placed.Groups keys ats) = Prim.hlevel props
IsOutputAt-prop sides (named.Groups by aggs) (placed.Rows ats) = Prim.hlevel props
IsOutputAt-prop sides (named.Groups by aggs) (placed.Totals ats) = Prim.hlevel props
IsOutputAt-prop sides (named.Groups by aggs) (placed.Groups keys ats) = Prim.hlevel props

-- for the ghost field of a struct that holds checked queries
pub ruleset checked_props =
    (IsOutputInBounds-prop, AreJoinsAt-prop, IsOutputAt-prop, props)
