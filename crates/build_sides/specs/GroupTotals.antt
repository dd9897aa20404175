-- What contracts see of a group side.
use Rattle.std.specs.Prelude.{List, []}
use Rattle.plan_ast.specs.Answer.{aggregate}
use Rattle.plan_ast.specs.declared.queries.Func.{Func}
use Rattle.plan_ast.specs.declared.queries.Func.TheVariants.{Count}
use Rattle.plan_ast.specs.declared.answers.AggValue.{AggValue}
use Rattle.build_sides.specs.declared.key_table.Key.{Key}

-- an aggregate, and its total of each group, by the group's number
pub record Totals : Type 0 where
  pub func : Func
  pub values : List AggValue

-- the keys of the groups by their numbers, and the totals of each aggregate
pub record GroupTotals : Type 0 where
  pub keys : List Key
  pub columns : List Totals

-- no totals, of the first aggregate there is
abbrev pub no_totals : Totals
no_totals = record { func = Count; values = [] }

-- what an aggregate makes of no values
abbrev pub nothing_of : Totals → AggValue
nothing_of column = aggregate column.func []
