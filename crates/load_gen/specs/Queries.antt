-- The queries of a large input. Each is drawn after a state: that at which its first draw begins.
use Rattle.std.specs.Prelude.{ℕ, zero, suc, ℤ, pos, ◌+◌, ◌/◌, ◌%◌, ◌==◌, if◌then◌else◌, List, []}
use Rattle.std.specs.Prelude.{◌∷◌, codes, Some, None}
use Rattle.plan_ast.specs.declared.queries.Agg.{Agg}
use Rattle.plan_ast.specs.declared.queries.Filter.{Filter}
use Rattle.plan_ast.specs.declared.queries.Func.TheVariants.{Count, Sum}
use Rattle.plan_ast.specs.declared.queries.Join.{Join}
use Rattle.plan_ast.specs.declared.queries.NameRef.{NameRef}
use Rattle.plan_ast.specs.declared.queries.Op.{Op}
use Rattle.plan_ast.specs.declared.queries.Op.TheVariants.{Eq, Ge}
use Rattle.plan_ast.specs.declared.queries.Output.{Output}
use Rattle.plan_ast.specs.declared.queries.Output.TheVariants.{Rows, Totals, Groups}
use Rattle.plan_ast.specs.declared.queries.Query.{Query}
use Rattle.load_gen.specs.Draws.{each_below, next_state, signed_of}
use Rattle.load_gen.specs.declared.queries.Kind.{Kind}
use Rattle.load_gen.specs.declared.queries.Kind.TheVariants.{FilteredTotals, GroupTotals}
use Rattle.load_gen.specs.declared.queries.Kind.TheVariants.{JoinTotals, FilteredRows}

-- the kind of the query at a place
abbrev pub kind_of : ℕ → Kind
kind_of place =
    if place % 4 == 0 then FilteredTotals
    else if place % 4 == 1 then GroupTotals
    else if place % 4 == 2 then JoinTotals
    else FilteredRows

abbrev pub filter_of : List ℕ → Op → ℤ → Filter
filter_of column op value = record { column = column; op = op; value = value }

-- the filters that are drawn after a state, and the state after them
abbrev pub filters_of : ℕ → Kind → List Filter
filters_of state FilteredTotals = filter_of (codes "v") Ge (signed_of (next_state state)) ∷ []
filters_of state GroupTotals = []
filters_of state JoinTotals = []
filters_of state FilteredRows =
    filter_of (codes "k") Eq (pos (next_state state % 1000))
    ∷ filter_of (codes "g") Eq (pos (next_state (next_state state) % 16))
    ∷ []

abbrev pub after_filters : ℕ → Kind → ℕ
after_filters state FilteredTotals = next_state state
after_filters state GroupTotals = state
after_filters state JoinTotals = state
after_filters state FilteredRows = next_state (next_state state)

-- a column of the scanned table, or of a join's
abbrev pub column_of : ℕ → List ℕ → NameRef
column_of side name = record { side = side; name = name }

abbrev pub joins_of : Kind → List Join
joins_of FilteredTotals = []
joins_of GroupTotals = []
joins_of JoinTotals = record {
  table = codes "u";
  left = column_of 0 (codes "k");
  right = codes "k";
  filters = [];
} ∷ []
joins_of FilteredRows = []

abbrev pub count_and_sum_of : NameRef → List Agg
count_and_sum_of column =
    record { func = Count; column = None }
    ∷ record { func = Sum; column = Some column }
    ∷ []

abbrev pub output_of : Kind → Output
output_of FilteredTotals = Totals (count_and_sum_of (column_of 0 (codes "v")))
output_of GroupTotals =
    Groups (column_of 0 (codes "g") ∷ []) (count_and_sum_of (column_of 0 (codes "v")))
output_of JoinTotals = Totals (count_and_sum_of (column_of 1 (codes "w")))
output_of FilteredRows = Rows (column_of 0 (codes "k") ∷ column_of 0 (codes "v") ∷ [])

-- the query at a place, whose weight, cost and filters are drawn after a state
abbrev pub query_of : ℕ → ℕ → Query
query_of state place = record {
  after = place / 2;
  weight = 1 + next_state state % 10;
  cost = 50 + next_state (next_state state) % 200;
  scan = codes "t";
  filters = filters_of (next_state (next_state state)) (kind_of place);
  joins = joins_of (kind_of place);
  output = output_of (kind_of place);
}

-- the state before the query at a place: the queries before it are drawn first
unfoldable pub state_before : ℕ → ℕ → ℕ
state_before state zero = state
state_before state (suc place) =
    after_filters (next_state (next_state (state_before state place))) (kind_of place)

-- 40 queries that are drawn after a state
abbrev pub queries_from : ℕ → List Query
queries_from state = each_below 40 (λ place. query_of (state_before state place) place)
