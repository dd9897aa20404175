-- The limits of a query.
use Rattle.std.specs.Prelude.{ℕ, ◌≡◌, ◌≤◌, ◌↔◌, List, length, All, IsNone}
use Rattle.plan_ast.specs.declared.queries.Filter.{Filter}
use Rattle.plan_ast.specs.declared.queries.Func.TheVariants.{Count}
use Rattle.plan_ast.specs.declared.queries.Agg.{Agg}
use Rattle.plan_ast.specs.declared.queries.Output.{Output}
use Rattle.plan_ast.specs.declared.queries.Output.TheVariants.{Rows, Totals, Groups}
use Rattle.plan_ast.specs.declared.queries.Query.{Query}

-- a number from `low` to `high`
abbrev pub IsWithin : ℕ → ℕ → ℕ → Type 0
IsWithin low high n = (low ≤ n) × (n ≤ high)

-- at most 16 filters
abbrev pub AreFewFilters : List Filter → Type 0
AreFewFilters filters = length filters ≤ 16

-- an aggregate with a column exactly if it doesn't count
abbrev pub IsAggInBounds : Agg → Type 0
IsAggInBounds agg = IsNone agg.column ↔ (agg.func ≡ Count)

-- 1 to 8 such aggregates
pub record AreAggsInBounds (aggs : List Agg) : Type 0 where
  pub count : IsWithin 1 8 (length aggs)
  pub each : All IsAggInBounds aggs

-- 1 to 8 columns, 1 to 8 aggregates, or 1 to 8 aggregates by 1 or 2 columns
abbrev pub IsOutputInBounds : Output → Type 0
IsOutputInBounds (Rows columns) = IsWithin 1 8 (length columns)
IsOutputInBounds (Totals aggs) = AreAggsInBounds aggs
IsOutputInBounds (Groups by aggs) = IsWithin 1 2 (length by) × AreAggsInBounds aggs

-- a query whose numbers all lie within their limits
pub record IsInBounds (query : Query) : Type 0 where
  pub after : query.after ≤ 16384
  pub weight : IsWithin 1 10 query.weight
  pub cost : IsWithin 1 1000000 query.cost
  pub filters : AreFewFilters query.filters
  pub joins : length query.joins ≤ 2
  pub join_filters : All (λ join. AreFewFilters join.filters) query.joins
  pub output : IsOutputInBounds query.output
