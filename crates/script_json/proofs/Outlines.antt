-- The canonical form nests little and has no floats.
use Rattle.std.proofs.Common.{◌≡◌, ℕ, ◌≤◌, pos, negsuc, List, [], ◌∷◌, map, Bool, true, false, Option, Some, None, refl, arith}
use Rattle.std.specs.Prelude.{ℤ, ◌==◌}
use Rattle.serde_json.specs.Data.{Data, depth, items_depth}
use Rattle.serde_json.specs.Find.{is_float, of_integer}
use Rattle.serde_json.specs.View.{items_of}
use Rattle.serde_json.specs.Written.{has_float, items_have_float}
use Rattle.plan_ast.specs.declared.queries.Func.{Func}
use Rattle.plan_ast.specs.declared.queries.NameRef.{NameRef}
use Rattle.plan_ast.specs.declared.queries.Filter.{Filter}
use Rattle.plan_ast.specs.declared.queries.Join.{Join}
use Rattle.plan_ast.specs.declared.queries.Agg.{Agg}
use Rattle.plan_ast.specs.declared.queries.Output.{Output}
use Rattle.plan_ast.specs.declared.queries.Output.TheVariants.{Rows, Totals, Groups}
use Rattle.plan_ast.specs.declared.queries.Query.{Query}
use Rattle.script_json.specs.Format.{script_value}
use Rattle.script_json.specs.Format.{aggregate_of, aggregate_value, entry_value, filter_value, join_value, output_value, query_value, reference_value}
use Rattle.script_json.specs.declared.script.TableEntry.{TableEntry}
use Rattle.script_json.specs.declared.script.Script.{Script}

items_depth-mapped : {A : Type 0} (value : A → Data) (n : ℕ)
    → ((a : A) → depth (value a) ≤ n) → (xs : List A) → items_depth (items_of (map value xs)) ≤ n
items_depth-mapped value n h [] = omega arith
items_depth-mapped value n h (x ∷ xs) = let first = h x in let rest = items_depth-mapped value n h xs in omega arith

reference_by-depth : (test : Bool) (r : NameRef) → (r.side == 0) ≡ test → depth (reference_value r) ≤ 1
reference_by-depth true r is = rw is (omega arith)
reference_by-depth false r is = rw is (omega arith)

reference-depth : (r : NameRef) → depth (reference_value r) ≤ 1
reference-depth r = reference_by-depth (r.side == 0) r refl

filter-depth : (f : Filter) → depth (filter_value f) ≤ 1
filter-depth f = omega arith

join-depth : (j : Join) → depth (join_value j) ≤ 3
join-depth j = let left = reference-depth j.left in let filters = items_depth-mapped filter_value 1 filter-depth j.filters in omega arith

aggregate_of-depth : (func : Func) (column : Option NameRef) → depth (aggregate_of func column) ≤ 2
aggregate_of-depth func None = omega arith
aggregate_of-depth func (Some column) = let inner = reference-depth column in omega arith

aggregate-depth : (agg : Agg) → depth (aggregate_value agg) ≤ 2
aggregate-depth agg = aggregate_of-depth agg.func agg.column

output-depth : (o : Output) → depth (output_value o) ≤ 5
output-depth (Rows columns) = let inner = items_depth-mapped reference_value 1 reference-depth columns in omega arith
output-depth (Totals aggs) = let inner = items_depth-mapped aggregate_value 2 aggregate-depth aggs in omega arith
output-depth (Groups by aggs) =
    let columns = items_depth-mapped reference_value 1 reference-depth by in
    let inner = items_depth-mapped aggregate_value 2 aggregate-depth aggs in omega arith

query-depth : (q : Query) → depth (query_value q) ≤ 6
query-depth q =
    let joins = items_depth-mapped join_value 3 join-depth q.joins in
    let filters = items_depth-mapped filter_value 1 filter-depth q.filters in
    let inner = output-depth q.output in omega arith

entry-depth : (e : TableEntry) → depth (entry_value e) ≤ 1
entry-depth e = omega arith

pub script-depth : (s : Script) → depth (script_value s) ≤ 127
script-depth s =
    let queries = items_depth-mapped query_value 6 query-depth s.queries in
    let tables = items_depth-mapped entry_value 1 entry-depth s.tables in omega arith

-- ---- floats

items_have_float-mapped : {A : Type 0} (value : A → Data)
    → ((a : A) → has_float (value a) ≡ false) → (xs : List A) → items_have_float (items_of (map value xs)) ≡ false
items_have_float-mapped value h [] = refl
items_have_float-mapped value h (x ∷ xs) = rw (h x) (items_have_float-mapped value h xs)

reference_by-float : (test : Bool) (r : NameRef) → (r.side == 0) ≡ test → has_float (reference_value r) ≡ false
reference_by-float true r is = rw is
reference_by-float false r is = rw is

reference-float : (r : NameRef) → has_float (reference_value r) ≡ false
reference-float r = reference_by-float (r.side == 0) r refl

integer-float : (z : ℤ) → is_float (of_integer z) ≡ false
integer-float (pos n) = refl
integer-float (negsuc n) = refl

filter-float : (f : Filter) → has_float (filter_value f) ≡ false
filter-float f = rw (integer-float f.value)

join-float : (j : Join) → has_float (join_value j) ≡ false
join-float j = rw (reference-float j.left, items_have_float-mapped filter_value filter-float j.filters)

aggregate_of-float : (func : Func) (column : Option NameRef) → has_float (aggregate_of func column) ≡ false
aggregate_of-float func None = refl
aggregate_of-float func (Some column) = rw (reference-float column)

aggregate-float : (agg : Agg) → has_float (aggregate_value agg) ≡ false
aggregate-float agg = aggregate_of-float agg.func agg.column

output-float : (o : Output) → has_float (output_value o) ≡ false
output-float (Rows columns) = rw (items_have_float-mapped reference_value reference-float columns)
output-float (Totals aggs) = rw (items_have_float-mapped aggregate_value aggregate-float aggs)
output-float (Groups by aggs) = rw (items_have_float-mapped reference_value reference-float by, items_have_float-mapped aggregate_value aggregate-float aggs)

query-float : (q : Query) → has_float (query_value q) ≡ false
query-float q = rw (items_have_float-mapped join_value join-float q.joins, items_have_float-mapped filter_value filter-float q.filters, output-float q.output)

entry-float : (e : TableEntry) → has_float (entry_value e) ≡ false
entry-float e = refl

pub script-float : (s : Script) → has_float (script_value s) ≡ false
script-float s = rw (items_have_float-mapped query_value query-float s.queries, items_have_float-mapped entry_value entry-float s.tables)
