-- Parts of a query with all that is asked of them.
use Rattle.plan_ast.specs.Bounds.{AreFewFilters, IsAggInBounds}
use Rattle.plan_ast.specs.declared.queries.Agg.{Agg}
use Rattle.plan_ast.specs.declared.queries.Join.{Join}
use Rattle.script_json.specs.WellFormed.{IsAgg, IsJoin}

-- a join with few filters
abbrev pub FewJoin : Join → Type 0
FewJoin join = IsJoin join × AreFewFilters join.filters

-- an aggregate that has a column where it needs one
abbrev pub AnyAgg : Agg → Type 0
AnyAgg agg = IsAggInBounds agg × IsAgg agg
