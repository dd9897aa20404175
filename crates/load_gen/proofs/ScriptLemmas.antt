-- The script that is drawn can be read and written.
use Rattle.std.proofs.Common.{◌≡◌, ◌≢◌, ℕ, zero, suc, ◌+◌, ◌%◌, ◌^◌, ◌<◌, ◌≤◌, ℤ, pos, negsuc, false, List, [], ◌∷◌, All, IsTrue}
use Rattle.std.proofs.Common.{None, FitsSigned, length, map, nat_lt, codes, refl, arith}
use Rattle.std.specs.Int.{w64}
use Rattle.std.specs.List.{AllPairs, range_with_len}
use Rattle.std.proofs.lemmas.Bool.Decides.{nat_tests}
use Rattle.std.proofs.lemmas.Int.{ints}
use Rattle.std.proofs.lemmas.List.Elements.{All-cons, All-from_recursion, All-nil}
use Rattle.std.proofs.lemmas.List.Kept.{AllPairs-cons}
use Rattle.plan_ast.specs.Bounds.{AreAggsInBounds, AreFewFilters, IsAggInBounds, IsInBounds, IsOutputInBounds}
use Rattle.plan_ast.specs.declared.queries.Op.{Op}
use Rattle.plan_ast.specs.declared.queries.Op.TheVariants.{Eq, Ge}
use Rattle.plan_ast.specs.declared.queries.NameRef.{NameRef}
use Rattle.plan_ast.specs.declared.queries.Query.{Query}
use Rattle.script_json.specs.Format.{first_early, is_i64}
use Rattle.col_table.specs.Name.{is_name}
use Rattle.script_json.specs.declared.script.TableEntry.{TableEntry}
use Rattle.script_json.specs.WellFormed.{IsAgg, IsEntry, IsFilter, IsJoin, IsOutput, IsQuery, IsReference, IsScript}
use Rattle.load_gen.specs.Draws.{each_below, next_state, signed_of}
use Rattle.load_gen.specs.Generated.{entry_of, script_from}
use Rattle.load_gen.specs.Queries.{count_and_sum_of, column_of, filter_of, filters_of, joins_of, kind_of, output_of, query_of, state_before}
use Rattle.load_gen.specs.declared.queries.Kind.{Kind}
use Rattle.load_gen.specs.declared.queries.Kind.TheVariants.{FilteredTotals, GroupTotals, JoinTotals, FilteredRows}
use Rattle.load_gen.proofs.DrawsLemmas.{All-each_below, head_same, length-each_below}

-- ---- filters

is_i64-from_fits : (z : ℤ) → FitsSigned w64 z → IsTrue (is_i64 z)
is_i64-from_fits (pos n) fits =
    let small : n < 2 ^ 63 = omega (arith, ints, fits) in
    grind (arith, nat_tests)
is_i64-from_fits (negsuc n) fits =
    let small : n < 2 ^ 63 = omega (arith, ints, fits) in
    grind (arith, nat_tests)

pub fits-draw : (x bound : ℕ) → 0 < bound → bound ≤ 2 ^ 31 → FitsSigned w64 (pos (x % bound))
fits-draw x bound some few = omega (arith, ints)

pub fits-signed : (x : ℕ) → FitsSigned w64 (signed_of x)
fits-signed x = omega (arith, ints)

IsFilter-of : (column : List ℕ) (op : Op) (value : ℤ) → IsTrue (is_name column) → FitsSigned w64 value → IsFilter (filter_of column op value)
IsFilter-of column op value legal fits = record { column = legal; value = is_i64-from_fits value fits }

IsFilters-drawn : (state : ℕ) (kind : Kind) → All IsFilter (filters_of state kind)
IsFilters-drawn state FilteredTotals =
    All-from_recursion IsFilter (filters_of state FilteredTotals) (IsFilter-of (codes "v") Ge _ refl (fits-signed (next_state state)), tt)
IsFilters-drawn state GroupTotals = All-nil IsFilter
IsFilters-drawn state JoinTotals = All-nil IsFilter
IsFilters-drawn state FilteredRows =
    All-from_recursion IsFilter (filters_of state FilteredRows) (
      IsFilter-of (codes "k") Eq _ refl (fits-draw (next_state state) 1000 (omega arith) (omega arith)),
      (IsFilter-of (codes "g") Eq _ refl (fits-draw (next_state (next_state state)) 16 (omega arith) (omega arith)), tt),
    )

few_filters : (state : ℕ) (kind : Kind) → AreFewFilters (filters_of state kind)
few_filters state FilteredTotals = omega arith
few_filters state GroupTotals = omega arith
few_filters state JoinTotals = omega arith
few_filters state FilteredRows = omega arith

-- ---- joins

IsReference-of : (side : ℕ) (name : List ℕ) → side ≤ 2 → IsTrue (is_name name) → IsReference (column_of side name)
IsReference-of side name few legal = record { side = few; name = legal }

IsJoins-drawn : (kind : Kind) → All IsJoin (joins_of kind)
IsJoins-drawn FilteredTotals = All-nil IsJoin
IsJoins-drawn GroupTotals = All-nil IsJoin
IsJoins-drawn JoinTotals =
    All-from_recursion IsJoin (joins_of JoinTotals)
    (record { table = refl; left = IsReference-of 0 (codes "k") (omega arith) refl; right = refl; filters = All-nil IsFilter }, tt)
IsJoins-drawn FilteredRows = All-nil IsJoin

few_joins : (kind : Kind) → length (joins_of kind) ≤ 2
few_joins FilteredTotals = omega arith
few_joins GroupTotals = omega arith
few_joins JoinTotals = omega arith
few_joins FilteredRows = omega arith

few_join_filters : (kind : Kind) → All (λ join. AreFewFilters join.filters) (joins_of kind)
few_join_filters FilteredTotals = All-nil (λ join. AreFewFilters join.filters)
few_join_filters GroupTotals = All-nil (λ join. AreFewFilters join.filters)
few_join_filters JoinTotals = All-from_recursion (λ join. AreFewFilters join.filters) (joins_of JoinTotals) (omega arith, tt)
few_join_filters FilteredRows = All-nil (λ join. AreFewFilters join.filters)

-- ---- outputs

IsAggs-count_and_sum : (column : NameRef) → IsReference column → All IsAgg (count_and_sum_of column)
IsAggs-count_and_sum column is = All-from_recursion IsAgg (count_and_sum_of column) (tt, (is, tt))

AreAggsInBounds-count_and_sum : (column : NameRef) → AreAggsInBounds (count_and_sum_of column)
AreAggsInBounds-count_and_sum column = record {
  count = (omega arith, omega arith);
  each = All-from_recursion IsAggInBounds (count_and_sum_of column)
      ((λ _. refl, λ _. refl), ((λ none. absurd (cc), λ same. absurd (cc)), tt));
}

IsOutput-drawn : (kind : Kind) → IsOutput (output_of kind)
IsOutput-drawn FilteredTotals = IsAggs-count_and_sum (column_of 0 (codes "v")) (IsReference-of 0 (codes "v") (omega arith) refl)
IsOutput-drawn GroupTotals = (
  All-from_recursion IsReference (column_of 0 (codes "g") ∷ []) (IsReference-of 0 (codes "g") (omega arith) refl, tt),
  IsAggs-count_and_sum (column_of 0 (codes "v")) (IsReference-of 0 (codes "v") (omega arith) refl),
)
IsOutput-drawn JoinTotals = IsAggs-count_and_sum (column_of 1 (codes "w")) (IsReference-of 1 (codes "w") (omega arith) refl)
IsOutput-drawn FilteredRows =
    All-from_recursion IsReference (column_of 0 (codes "k") ∷ column_of 0 (codes "v") ∷ [])
    (IsReference-of 0 (codes "k") (omega arith) refl, (IsReference-of 0 (codes "v") (omega arith) refl, tt))

IsOutputInBounds-drawn : (kind : Kind) → IsOutputInBounds (output_of kind)
IsOutputInBounds-drawn FilteredTotals = AreAggsInBounds-count_and_sum (column_of 0 (codes "v"))
IsOutputInBounds-drawn GroupTotals = ((omega arith, omega arith), AreAggsInBounds-count_and_sum (column_of 0 (codes "v")))
IsOutputInBounds-drawn JoinTotals = AreAggsInBounds-count_and_sum (column_of 1 (codes "w"))
IsOutputInBounds-drawn FilteredRows = (omega arith, omega arith)

-- ---- queries

IsInBounds-drawn : (state place : ℕ) → place < 40 → IsInBounds (query_of state place)
IsInBounds-drawn state place before = record {
  after = omega arith;
  weight = (omega arith, omega arith);
  cost = (omega arith, omega arith);
  filters = few_filters (next_state (next_state state)) (kind_of place);
  joins = few_joins (kind_of place);
  join_filters = few_join_filters (kind_of place);
  output = IsOutputInBounds-drawn (kind_of place);
}

IsQuery-drawn : (state place : ℕ) → place < 40 → IsQuery (query_of state place)
IsQuery-drawn state place before = record {
  bounds = IsInBounds-drawn state place before;
  scan = refl;
  filters = IsFilters-drawn (next_state (next_state state)) (kind_of place);
  joins = IsJoins-drawn (kind_of place);
  output = IsOutput-drawn (kind_of place);
}

-- a query at each place waits for at most as many task sets as there are queries before it, and each of those has one
first_early-none : (made : ℕ → Query) → ((place : ℕ) → (made place).after ≤ place) → (count n before : ℕ) → n ≤ before
    → first_early n before (map made (range_with_len n count)) ≡ None
first_early-none made soon zero n before enough = refl
first_early-none made soon (suc count) n before enough =
    let late : nat_lt before (made n).after ≡ false = grind (arith, nat_tests, soon n) in
    rw late (first_early-none made soon count (n + 1) _ (omega arith))

first_early-each_below : (made : ℕ → Query) (count : ℕ) → ((place : ℕ) → (made place).after ≤ place) → first_early 0 0 (each_below count made) ≡ None
unfolding each_below
first_early-each_below made count soon = first_early-none made soon count 0 0 (omega arith)

-- ---- the script

names_differ : AllPairs (λ a b. a.name ≢ b.name) (entry_of (codes "t") (codes "t.csv") ∷ entry_of (codes "u") (codes "u.csv") ∷ [])
names_differ =
    let Differ : TableEntry → TableEntry → Type 0 = λ a b. a.name ≢ b.name in
    let t = entry_of (codes "t") (codes "t.csv") in
    let u = entry_of (codes "u") (codes "u.csv") in
    AllPairs-cons Differ t (u ∷ [])
    (All-cons (Differ t) u [] (λ same. absurd (omega (arith, head_same 116 117 [] [] same))) (All-nil (Differ t)))
    (AllPairs-cons Differ u [] (All-nil (Differ u)) (λ i j d before within. absurd (omega arith)))

pub IsScript-drawn : (state : ℕ) → IsScript (script_from state)
IsScript-drawn state =
    let made : ℕ → Query = λ place. query_of (state_before state place) place in
    record {
      few_tables = omega arith;
      tables = All-from_recursion IsEntry (script_from state).tables
          (record { name = refl; file = refl }, (record { name = refl; file = refl }, tt));
      names = names_differ;
      few_queries = omega (arith, length-each_below 40 made);
      queries = All-each_below IsQuery 40 made (λ place before. IsQuery-drawn (state_before state place) place before);
      after = first_early-each_below made 40 (λ place. omega arith);
    }
