-- What is written in the canonical form is read back as what it was.
use Rattle.std.proofs.Common.{◌≡◌, ◌≢◌, ℕ, suc, ◌≤◌, ◌<◌, pos, negsuc, List, [], ◌∷◌, ◌++◌, map, length, Bool, true, false, nat_lt, bytes_eq, All, Option, Some}
use Rattle.std.proofs.Common.{None, Ok, refl, sym, ap, ◌∙◌, subst, arith, append_assoc, append-nil, length-append, true≢false}
use Rattle.std.specs.Prelude.{ℤ, AllPairs, IsTrue, ◌==◌}
use Rattle.std.proofs.lemmas.Bool.Decides.{nat_tests}
use Rattle.std.proofs.lemmas.List.{get_or_append_left}
use Rattle.std.proofs.lemmas.List.Folds.{list_any_none}
use Rattle.std.proofs.lemmas.Slice.Eq.{bytes_eq-Decides}
use Rattle.std.proofs.Math.Seq.{get_or-append_seam}
use Rattle.std.specs.List.{list_any}
use Rattle.serde_json.specs.Data.{Data, number, string, unsigned}
use Rattle.serde_json.specs.Events.{items_len}
use Rattle.serde_json.specs.Find.{of_integer}
use Rattle.serde_json.specs.View.{items_of}
use Rattle.plan_ast.specs.Bounds.{AreAggsInBounds, IsAggInBounds, IsOutputInBounds}
use Rattle.plan_ast.specs.declared.queries.Op.{Op}
use Rattle.plan_ast.specs.declared.queries.Op.TheVariants.{Eq, Ne, Lt, Le, Gt, Ge}
use Rattle.plan_ast.specs.declared.queries.Func.{Func}
use Rattle.plan_ast.specs.declared.queries.Func.TheVariants.{Count, Sum, Min, Max}
use Rattle.plan_ast.specs.declared.queries.NameRef.{NameRef}
use Rattle.plan_ast.specs.declared.queries.Filter.{Filter}
use Rattle.plan_ast.specs.declared.queries.Join.{Join}
use Rattle.plan_ast.specs.declared.queries.Agg.{Agg}
use Rattle.plan_ast.specs.declared.queries.Output.{Output}
use Rattle.plan_ast.specs.declared.queries.Output.TheVariants.{Rows, Totals, Groups}
use Rattle.plan_ast.specs.declared.queries.Query.{Query}
use Rattle.script_json.specs.Format.{script_value}
use Rattle.script_json.specs.Objects.{array_with}
use Rattle.script_json.specs.Format.{aggregate_of, aggregate_value, entry_value, filter_value, function_word, join_value, operator_word, output_value}
use Rattle.script_json.specs.Format.{query_value, reference_value}
use Rattle.script_json.specs.Forms.{Form, array_of, each, whole}
use Rattle.script_json.specs.Format.{aggregate, any_number, file_name, filter, filters, function, is_file_name, is_i64, join, joins, name, operator}
use Rattle.script_json.specs.Format.{output, query, reference, script, table_entry}
use Rattle.script_json.specs.WellFormed.{IsAgg, IsEntry, IsFilter, IsOutput, IsQuery, IsReference, IsScript}
use Rattle.script_json.specs.declared.script.TableEntry.{TableEntry}
use Rattle.script_json.specs.declared.script.Script.{Script}
use Rattle.script_json.proofs.KeptLemmas.{kept-true}
use Rattle.col_table.specs.Name.{is_name}
use Rattle.col_table.proofs.NameLemmas.{false-from_not}
use Rattle.script_json.proofs.Parts.{AnyAgg, FewJoin}

-- ---- numbers, texts and words

whole-back : (least most n : ℕ) → least ≤ n → n ≤ most → whole least most (number (unsigned n)) ≡ Ok n
whole-back least most n low high =
    let not_below : nat_lt n least ≡ false = grind (arith, nat_tests) in
    let not_above : nat_lt most n ≡ false = grind (arith, nat_tests) in
    rw (not_below, not_above)

any_number-back : (z : ℤ) → is_i64 z ≡ true → any_number (number (of_integer z)) ≡ Ok z
any_number-back (pos n) fits = rw (fits, fits)
any_number-back (negsuc n) fits = rw fits

name-back : (bytes : List ℕ) → IsTrue (is_name bytes) → name (string bytes) ≡ Ok bytes
name-back bytes legal = kept-true is_name bytes legal

file_name-back : (bytes : List ℕ) → IsTrue (is_file_name bytes) → file_name (string bytes) ≡ Ok bytes
file_name-back bytes legal = kept-true is_file_name bytes legal

operator-back : (op : Op) → operator (string (operator_word op)) ≡ Ok op
operator-back Eq = refl
operator-back Ne = refl
operator-back Lt = refl
operator-back Le = refl
operator-back Gt = refl
operator-back Ge = refl

function-back : (func : Func) → func ≢ Count → function (string (function_word func)) ≡ Ok func
function-back Count of_column = absurd (of_column refl)
function-back Sum of_column = refl
function-back Min of_column = refl
function-back Max of_column = refl

-- ---- arrays

items_len-items_of : (ds : List Data) → items_len (items_of ds) ≡ length ds
items_len-items_of [] = refl
items_len-items_of (d ∷ ds) = ap suc (items_len-items_of ds)

length-mapped : {A : Type 0} (value : A → Data) (xs : List A) → length (map value xs) ≡ length xs
length-mapped value [] = refl
length-mapped value (x ∷ xs) = ap suc (length-mapped value xs)

each-back : {A : Type 0} (form : List A → Form A) (value : A → Data) (earlier xs : List A)
    → ((before : List A) (x : A) (after : List A) → before ++ (x ∷ after) ≡ earlier ++ xs → form before (value x) ≡ Ok x)
    → each form earlier (items_of (map value xs)) ≡ Ok (earlier ++ xs)
each-back form value earlier [] back = ap Ok (sym (append-nil earlier))
each-back form value earlier (x ∷ xs) back =
    let first : form earlier (value x) ≡ Ok x = back earlier x xs refl in
    let moved = append_assoc earlier (x ∷ []) xs in
    rw first (each-back form value (earlier ++ x ∷ []) xs (λ before y after e. back before y after (e ∙ moved)) ∙ ap Ok moved)

-- an array that is written of as many items as may be is read back
array-back : {A : Type 0} (form : List A → Form A) (value : A → Data) (least most : ℕ) (xs : List A)
    → ((before : List A) (x : A) (after : List A) → before ++ (x ∷ after) ≡ xs → form before (value x) ≡ Ok x)
    → least ≤ length xs → length xs ≤ most → array_of least most form (array_with value xs) ≡ Ok xs
array-back form value least most xs back some few =
    let counted : items_len (items_of (map value xs)) ≡ length xs = items_len-items_of (map value xs) ∙ length-mapped value xs in
    let not_above : nat_lt most (items_len (items_of (map value xs))) ≡ false = rw counted (grind (arith, nat_tests)) in
    let not_below : nat_lt (items_len (items_of (map value xs))) least ≡ false = rw counted (grind (arith, nat_tests)) in
    rw (not_above, not_below) (each-back form value [] xs back)

-- an element within a list has what all have
All-within : {A : Type 0} (P : A → Type 0) (before : List A) (x : A) (after : List A) → All P (before ++ x ∷ after) → P x
All-within P before x after all =
    let within : length before < length (before ++ x ∷ after) = rw (length-append before (x ∷ after)) (omega arith) in
    subst P (get_or-append_seam before x after x) (all (length before) x within)

list-back : {A : Type 0} (P : A → Type 0) (form : Form A) (value : A → Data) (least most : ℕ) (xs : List A)
    → ((x : A) → P x → form (value x) ≡ Ok x) → All P xs
    → least ≤ length xs → length xs ≤ most → array_of least most (λ _. form) (array_with value xs) ≡ Ok xs
list-back P form value least most xs back all some few =
    array-back (λ _. form) value least most xs (λ before x after e. back x (All-within P before x after (subst (λ l. All P l) (sym e) all))) some few

-- ---- the parts of a query

reference_by-back : (test : Bool) (side : ℕ) (bytes : List ℕ) → (side == 0) ≡ test → side ≤ 2 → IsTrue (is_name bytes)
    → reference (reference_value (record { side = side; name = bytes })) ≡ Ok (record { side = side; name = bytes })
reference_by-back true side bytes is few legal =
    let none : side ≡ 0 = grind (arith, nat_tests) in
    rw (is, name-back bytes legal, none)
reference_by-back false side bytes is few legal =
    let some : 1 ≤ side = grind (arith, nat_tests) in
    rw (is, whole-back 1 2 side some few, name-back bytes legal)

reference-back : (r : NameRef) → IsReference r → reference (reference_value r) ≡ Ok r
reference-back r h = reference_by-back (r.side == 0) r.side r.name refl h.side h.name

filter-back : (f : Filter) → IsFilter f → filter (filter_value f) ≡ Ok f
filter-back f h = rw (name-back f.column h.column, operator-back f.op, any_number-back f.value h.value)

filters-back : (fs : List Filter) → All IsFilter fs → length fs ≤ 16 → filters (array_with filter_value fs) ≡ Ok fs
filters-back fs all few = list-back IsFilter filter filter_value 0 16 fs filter-back all (omega arith) few

join-back : (j : Join) → FewJoin j → join (join_value j) ≡ Ok j
join-back j h = rw (name-back j.table h.0.table, reference-back j.left h.0.left, name-back j.right h.0.right, filters-back j.filters h.0.filters h.1)

aggregate_of-back : (func : Func) (column : Option NameRef) → IsAggInBounds (record { func = func; column = column })
    → IsAgg (record { func = func; column = column })
    → aggregate (aggregate_of func column) ≡ Ok (record { func = func; column = column })
aggregate_of-back Count None fits h = refl
aggregate_of-back Sum None fits h = absurd (let e = fits.0 refl in cc)
aggregate_of-back Min None fits h = absurd (let e = fits.0 refl in cc)
aggregate_of-back Max None fits h = absurd (let e = fits.0 refl in cc)
aggregate_of-back Count (Some column) fits h = absurd (true≢false (fits.1 refl))
aggregate_of-back Sum (Some column) fits h = rw (reference-back column h)
aggregate_of-back Min (Some column) fits h = rw (reference-back column h)
aggregate_of-back Max (Some column) fits h = rw (reference-back column h)

aggregate-back : (agg : Agg) → AnyAgg agg → aggregate (aggregate_value agg) ≡ Ok agg
aggregate-back agg h = aggregate_of-back agg.func agg.column h.0 h.1

aggregates-back : (aggs : List Agg) → AreAggsInBounds aggs → All IsAgg aggs → array_of 1 8 (λ _. aggregate) (array_with aggregate_value aggs) ≡ Ok aggs
aggregates-back aggs fits all =
    list-back AnyAgg aggregate aggregate_value 1 8 aggs aggregate-back (λ k d within. (fits.each k d within, all k d within)) fits.count.0 fits.count.1

output-back : (o : Output) → IsOutputInBounds o → IsOutput o → output (output_value o) ≡ Ok o
output-back (Rows columns) fits h = rw (list-back IsReference reference reference_value 1 8 columns reference-back h fits.0 fits.1)
output-back (Totals aggs) fits h = rw (aggregates-back aggs fits h)
output-back (Groups by aggs) fits h =
    let columns = list-back IsReference reference reference_value 1 2 by reference-back h.0 fits.0.0 fits.0.1 in
    rw (columns, aggregates-back aggs fits.1 h.1)

joins-back : (js : List Join) → All FewJoin js → length js ≤ 2 → joins (array_with join_value js) ≡ Ok js
joins-back js all few = list-back FewJoin join join_value 0 2 js join-back all (omega arith) few

query-back : (q : Query) → IsQuery q → query (query_value q) ≡ Ok q
query-back q h =
    let after = whole-back 0 16384 q.after (omega arith) h.bounds.after in
    let weight = whole-back 1 10 q.weight h.bounds.weight.0 h.bounds.weight.1 in
    let cost = whole-back 1 1000000 q.cost h.bounds.cost.0 h.bounds.cost.1 in
    let scan = name-back q.scan h.scan in
    let passed = filters-back q.filters h.filters h.bounds.filters in
    let joined = joins-back q.joins (λ k d within. (h.joins k d within, h.bounds.join_filters k d within)) h.bounds.joins in
    let put_out = output-back q.output h.bounds.output h.output in
    rw (after, weight, cost, scan, passed, joined, put_out)

-- ---- tables and scripts

bytes_eq-other : (xs ys : List ℕ) → xs ≢ ys → bytes_eq xs ys ≡ false
bytes_eq-other xs ys other = false-from_not (bytes_eq xs ys) (λ e. other ((bytes_eq-Decides xs ys).0 e))

-- no table before has the name
not_taken : (before : List TableEntry) (entry : TableEntry) (after : List TableEntry) → AllPairs (λ a b. a.name ≢ b.name) (before ++ entry ∷ after)
    → list_any (λ e. bytes_eq e.name entry.name) before ≡ false
not_taken before entry after differ =
    let all : All (λ e. bytes_eq e.name entry.name ≡ false) before =
    λ k d within.
    let inside : length before < length (before ++ entry ∷ after) = rw (length-append before (entry ∷ after)) (omega arith) in
    let pair = differ k (length before) d within inside in
    let this = get_or_append_left before (entry ∷ after) d k within in
    let that = get_or-append_seam before entry after d in
    bytes_eq-other _ _ (rw (this, that) at pair) in
    list_any_none (λ e. bytes_eq e.name entry.name) before all

entry-back : (before : List TableEntry) (entry : TableEntry) → IsEntry entry → list_any (λ e. bytes_eq e.name entry.name) before ≡ false
    → table_entry before (entry_value entry) ≡ Ok entry
entry-back before entry h free = rw (name-back entry.name h.name, free, file_name-back entry.file h.file)

tables-back : (tables : List TableEntry) → All IsEntry tables → AllPairs (λ a b. a.name ≢ b.name) tables → length tables ≤ 8
    → array_of 0 8 table_entry (array_with entry_value tables) ≡ Ok tables
tables-back tables all differ few =
    array-back table_entry entry_value 0 8 tables
    (λ before entry after e.
    entry-back before entry (All-within IsEntry before entry after (subst (λ l. All IsEntry l) (sym e) all))
    (not_taken before entry after (subst (λ l. AllPairs (λ a b. a.name ≢ b.name) l) (sym e) differ)))
    (omega arith) few

queries-back : (queries : List Query) → All IsQuery queries → length queries ≤ 4096
    → array_of 0 4096 (λ _. query) (array_with query_value queries) ≡ Ok queries
queries-back queries all few = list-back IsQuery query query_value 0 4096 queries query-back all (omega arith) few

-- a script that is written is read back
pub script-back : (s : Script) → IsScript s → script (script_value s) ≡ Ok s
script-back s h = rw (tables-back s.tables h.tables h.names h.few_tables, queries-back s.queries h.queries h.few_queries, h.after)
