-- Every name that a drawn query mentions is there.
use Rattle.std.proofs.Common.{◌≡◌, ℕ, ℤ, ◌+◌, ◌/◌, ◌%◌, List, [], ◌∷◌, All, None, codes, refl}
use Rattle.plan_ast.specs.Names.{refusal_of}
use Rattle.plan_ast.specs.declared.queries.NamedTable.{NamedTable}
use Rattle.plan_ast.specs.declared.queries.Query.{Query}
use Rattle.load_gen.specs.Draws.{first_state, next_state, state_after}
use Rattle.load_gen.specs.Generated.{generated, named, t_of, u_of}
use Rattle.load_gen.specs.Queries.{filters_of, joins_of, kind_of, output_of, query_of, state_before}
use Rattle.load_gen.specs.declared.queries.Kind.{Kind}
use Rattle.load_gen.specs.declared.queries.Kind.TheVariants.{FilteredTotals, GroupTotals, JoinTotals, FilteredRows}
use Rattle.load_gen.proofs.DrawsLemmas.{All-each_below}

-- the two tables, with any rows
abbrev two_tables : List (List ℤ) → List (List ℤ) → List NamedTable
two_tables t u =
    named (codes "t") (codes "t.csv") (record { names = codes "k" ∷ codes "g" ∷ codes "v" ∷ []; rows = t })
    ∷ named (codes "u") (codes "u.csv") (record { names = codes "k" ∷ codes "w" ∷ []; rows = u })
    ∷ []

-- a query of a kind
abbrev of_kind : ℕ → ℕ → ℕ → ℕ → Kind → Query
of_kind after weight cost state kind = record {
  after = after;
  weight = weight;
  cost = cost;
  scan = codes "t";
  filters = filters_of state kind;
  joins = joins_of kind;
  output = output_of kind;
}

kind-found : (t u : List (List ℤ)) (after weight cost state : ℕ) (kind : Kind) → refusal_of (two_tables t u) (of_kind after weight cost state kind) ≡ None
kind-found t u after weight cost state FilteredTotals = refl
kind-found t u after weight cost state GroupTotals = refl
kind-found t u after weight cost state JoinTotals = refl
kind-found t u after weight cost state FilteredRows = refl

pub names-found : (number : ℕ) → All (λ query. refusal_of (generated number).tables query ≡ None) (generated number).script.queries
names-found number =
    let before : ℕ → ℕ = state_before (state_after (first_state number) 601000) in
    All-each_below (λ query. refusal_of (generated number).tables query ≡ None) 40 (λ place. query_of (before place) place)
    (λ place within.
    let first = next_state (before place) in
    let second = next_state first in
    kind-found (t_of number).rows (u_of number).rows (place / 2) (1 + first % 10) (50 + second % 200) second (kind_of place))
