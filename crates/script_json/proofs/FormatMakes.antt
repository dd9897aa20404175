-- What each form of the format makes of a value.
use Rattle.std.proofs.Common.{◌≡◌, ◌≢◌, ℕ, ◌≤◌, List, [], ◌∷◌, ◌++◌, length, codes, cond, Bool, true, false, not, ◌||◌, true≢false, nat_eq, bytes_eq}
use Rattle.std.proofs.Common.{option_map, All, IfSome, Option, Some, None, Ok, refl, sym, ◌∙◌, arith, subst}
use Rattle.std.specs.Prelude.{⊤, AllPairs, IsTrue, if◌then◌else◌}
use Rattle.std.specs.List.{list_any}
use Rattle.std.specs.Option.{option_map_or}
use Rattle.serde_json.specs.Data.{Data, Items, no_items, item}
use Rattle.serde_json.specs.Find.{as_array, as_i64, as_number, as_object, as_str, as_u64}
use Rattle.std.proofs.lemmas.Slice.Eq.{bytes_eq-Decides}
use Rattle.std.proofs.lemmas.List.Elements.{All-append, All-cons, All-nil}
use Rattle.std.proofs.lemmas.List.Quantifiers.{all_pairs_push}
use Rattle.plan_ast.specs.Bounds.{AreAggsInBounds, IsInBounds, IsOutputInBounds}
use Rattle.plan_ast.specs.declared.queries.NameRef.{NameRef}
use Rattle.plan_ast.specs.declared.queries.Filter.{Filter}
use Rattle.plan_ast.specs.declared.queries.Join.{Join}
use Rattle.plan_ast.specs.declared.queries.Agg.{Agg}
use Rattle.plan_ast.specs.declared.queries.Func.{Func}
use Rattle.plan_ast.specs.declared.queries.Func.TheVariants.{Count, Sum, Min, Max}
use Rattle.plan_ast.specs.declared.queries.Output.{Output}
use Rattle.plan_ast.specs.declared.queries.Query.{Query}
use Rattle.script_json.specs.Forms.{Form, Reading, ◌>>◌, array_of, or_refuse, required, optional, bad_text, twice_named, whole, wrong_number, wrong_shape}
use Rattle.col_table.specs.Name.{is_name}
use Rattle.script_json.specs.Format.{entry_layout, filter_layout, function_layout, groups_layout, join_layout, query_layout, script_layout}
use Rattle.script_json.specs.Objects.{reads_object}
use Rattle.script_json.specs.Format.{aggregate, aggregates, any_number, count_of_rows, counts, file_name, filter, filters, first_early, function}
use Rattle.script_json.specs.Format.{function_named, function_of_column, groups, groups_of, has, is_file_name, is_i64, join, joined_column, joins}
use Rattle.script_json.specs.Format.{name, new_name, operator, operator_named, output, output_among, output_keys, query, reference, reference_among}
use Rattle.script_json.specs.Format.{references, refuse_early, rows_of, script, table_entry, totals_of, version}
use Rattle.script_json.specs.WellFormed.{IsAgg, IsEntry, IsFilter, IsOutput, IsQuery, IsReference, IsScript}
use Rattle.script_json.specs.declared.refusal.PathStep.TheVariants.{At}
use Rattle.script_json.specs.declared.refusal.ScriptRefusal.TheVariants.{VersionUnknown}
use Rattle.script_json.specs.declared.script.TableEntry.{TableEntry}
use Rattle.script_json.specs.declared.script.Script.{Script}
use Rattle.script_json.proofs.Parts.{AnyAgg, FewJoin}
use Rattle.script_json.proofs.Makes.{Makes, Makes-after, Makes-array_of, Makes-found, Makes-member, Makes-member_or, Makes-object_of, Makes-optional}
use Rattle.script_json.proofs.Makes.{Makes-or_refuse, Makes-refuse_if, Makes-required, Makes-text_of, Makes-then, Makes-under-then, Makes-unless, Makes-weaker}
use Rattle.script_json.proofs.Makes.{Makes-whole, Makes-word_of, true-from_not}

-- a text that keeps the rule of names
abbrev Named : List ℕ → Type 0
Named bytes = IsTrue (is_name bytes)

name-makes : (value : Data) → Makes Named (name value)
name-makes value = Makes-text_of is_name value

any_number-makes : (value : Data) → Makes (λ n. IsTrue (is_i64 n)) (any_number value)
any_number-makes value =
    Makes-found (λ n. IsTrue (is_i64 n)) wrong_shape (as_number value) _ tt (λ written.
    Makes-found (λ n. IsTrue (is_i64 n)) wrong_number (as_i64 written) _ tt (λ n.
    Makes-unless (λ n. IsTrue (is_i64 n)) (not (is_i64 n)) wrong_number (Ok n) tt (λ holds. true-from_not (is_i64 n) holds)))

filter-makes : (value : Data) → Makes IsFilter (filter value)
filter-makes value =
    Makes-object_of IsFilter filter_layout.keys value _ (
    Makes-member Named IsFilter (codes "col") name value _ name-makes (λ column column_named.
    Makes-member (λ _. ⊤) IsFilter (codes "op") operator value _ (Makes-word_of operator_named) (λ op _.
    Makes-member (λ n. IsTrue (is_i64 n)) IsFilter (codes "value") any_number value _ any_number-makes (λ bound fits.
    record { column = column_named; value = fits }))))

-- one more element of a list has Q
All-more : {A : Type 0} (Q : A → Type 0) (xs : List A) (a : A) → All Q xs → Q a → All Q (xs ++ a ∷ [])
All-more Q xs a all one = All-append Q xs (a ∷ []) all (All-cons Q a [] one (All-nil Q))

-- an array of items of one form
array-makes : {A : Type 0} (Q : A → Type 0) (least most : ℕ) (form : Form A) → ((value : Data) → Makes Q (form value))
    → (value : Data) → Makes (λ all. All Q all × (least ≤ length all) × (length all ≤ most)) (array_of least most (λ _. form) value)
array-makes Q least most form h value =
    Makes-array_of (All Q) least most (λ _. form) (All-nil Q)
    (λ earlier v all. Makes-weaker Q _ (form v) (λ a one. All-more Q earlier a all one) (h v)) value

joined_column-makes : (first second : Data) → Makes IsReference (joined_column first second)
joined_column-makes first second =
    Makes-under-then (λ n. (1 ≤ n) × (n ≤ 2)) IsReference (At 0) (whole 1 2 first) _ (Makes-whole 1 2 first) (λ side within.
    Makes-under-then Named IsReference (At 1) (name second) _ (name-makes second) (λ column column_named.
    record { side = within.1; name = column_named }))

reference_among-makes : (found : Option Items) (value : Data) → Makes IsReference (reference_among found value)
reference_among-makes None value =
    Makes-then Named IsReference (name value) _ (name-makes value) (λ column column_named. record { side = omega arith; name = column_named })
reference_among-makes (Some no_items) value = tt
reference_among-makes (Some (item first no_items)) value = tt
reference_among-makes (Some (item first (item second no_items))) value = joined_column-makes first second
reference_among-makes (Some (item first (item second (item third rest)))) value = tt

reference-makes : (value : Data) → Makes IsReference (reference value)
reference-makes value = reference_among-makes (as_array value) value

filters-makes : (value : Data) → Makes (λ all. All IsFilter all × (0 ≤ length all) × (length all ≤ 16)) (filters value)
filters-makes value = array-makes IsFilter 0 16 filter filter-makes value

-- filters under `where`, of which there may be none
where-makes : (value : Data) → Makes (λ all. All IsFilter all × (length all ≤ 16)) (optional (codes "where") [] filters value)
where-makes value =
    let P : List Filter → Type 0 = λ all. All IsFilter all × (length all ≤ 16) in
    Makes-optional P (codes "where") [] filters value (All-nil IsFilter, omega arith)
    (λ v. Makes-weaker _ P (filters v) (λ all h. (h.0, h.2)) (filters-makes v))

join-makes : (value : Data) → Makes FewJoin (join value)
join-makes value =
    Makes-object_of FewJoin join_layout.keys value _ (
    Makes-member Named FewJoin (codes "table") name value _ name-makes (λ table table_named.
    Makes-member IsReference FewJoin (codes "left") reference value _ reference-makes (λ left is_left.
    Makes-member Named FewJoin (codes "right") name value _ name-makes (λ right right_named.
    Makes-then (λ all. All IsFilter all × (length all ≤ 16)) FewJoin (optional (codes "where") [] filters value) _ (where-makes value) (λ passed few.
    (record { table = table_named; left = is_left; right = right_named; filters = few.0 }, few.1))))))

joins-makes : (value : Data) → Makes (λ all. All FewJoin all × (0 ≤ length all) × (length all ≤ 2)) (joins value)
joins-makes value = array-makes FewJoin 0 2 join join-makes value

-- ---- aggregates

OfColumn : Func → Type 0
OfColumn func = func ≢ Count

-- one of three words, by the tests for them
abbrev found_among : Bool → Bool → Bool → Option (List ℕ × Func)
found_among a b d = cond a (Some (codes "sum", Sum)) (cond b (Some (codes "min", Min)) (cond d (Some (codes "max", Max)) None))

one_of_three : (a b d : Bool) → IfSome (option_map (λ (word : List ℕ × Func). word.1) (found_among a b d)) OfColumn
unfolding OfColumn
one_of_three true b d = λ e. cc
one_of_three false true d = λ e. cc
one_of_three false false true = λ e. cc
one_of_three false false false = tt

found-makes : {A : Type 0} (P : A → Type 0) (found : Option A) → IfSome found P → Makes P (or_refuse bad_text found)
found-makes P None h = tt
found-makes P (Some a) h = h

function-makes : (value : Data) → Makes OfColumn (function value)
function-makes value =
    Makes-found OfColumn wrong_shape (as_str value) _ tt (λ bytes.
    let is = λ (word : List ℕ). bytes_eq word bytes in
    found-makes OfColumn (function_named bytes) (one_of_three (is (codes "sum")) (is (codes "min")) (is (codes "max"))))

count_of_rows-makes : (value : Data) → Makes AnyAgg (count_of_rows value)
count_of_rows-makes value =
    Makes-object_of AnyAgg (codes "fn" ∷ []) value (Ok (record { func = Count; column = None })) (((λ _. refl), (λ _. refl)), tt)

function_of_column-makes : (value : Data) → Makes AnyAgg (function_of_column value)
unfolding OfColumn
function_of_column-makes value =
    Makes-object_of AnyAgg function_layout.keys value _ (
    Makes-member OfColumn AnyAgg (codes "fn") function value _ function-makes (λ func of_column.
    Makes-member IsReference AnyAgg (codes "col") reference value _ reference-makes (λ column is_column.
    (((λ none. cc), (λ e. absurd (of_column e))), is_column))))

aggregate_if-makes : (test : Bool) (value : Data) → Makes AnyAgg (if test then count_of_rows value else function_of_column value)
aggregate_if-makes true value = count_of_rows-makes value
aggregate_if-makes false value = function_of_column-makes value

aggregate-makes : (value : Data) → Makes AnyAgg (aggregate value)
aggregate-makes value = aggregate_if-makes (counts value) value

SomeAggs : List Agg → Type 0
SomeAggs aggs = AreAggsInBounds aggs × All IsAgg aggs

aggregates-makes : (value : Data) → Makes SomeAggs (aggregates value)
unfolding SomeAggs
aggregates-makes value =
    Makes-weaker _ SomeAggs (aggregates value)
    (λ aggs h. (record { count = (h.1, h.2); each = λ k d within. (h.0 k d within).0 }, λ k d within. (h.0 k d within).1))
    (array-makes AnyAgg 1 8 aggregate aggregate-makes value)

-- ---- outputs

IsPutOut : Output → Type 0
IsPutOut output = IsOutputInBounds output × IsOutput output

rows_of-makes : (value : Data) → Makes IsPutOut (rows_of value)
unfolding IsPutOut
rows_of-makes value =
    let P : List NameRef → Type 0 = λ all. All IsReference all × (1 ≤ length all) × (length all ≤ 8) in
    Makes-object_of IsPutOut output_keys value _ (
    Makes-member P IsPutOut (codes "rows") (references 8) value _ (array-makes IsReference 1 8 reference reference-makes) (λ columns h.
    ((h.1, h.2), h.0)))

totals_of-makes : (value : Data) → Makes IsPutOut (totals_of value)
unfolding IsPutOut SomeAggs
totals_of-makes value =
    Makes-object_of IsPutOut output_keys value _ (
    Makes-member SomeAggs IsPutOut (codes "totals") aggregates value _ aggregates-makes (λ aggs h. h))

groups-makes : (value : Data) → Makes IsPutOut (groups value)
unfolding IsPutOut SomeAggs
groups-makes value =
    let P : List NameRef → Type 0 = λ all. All IsReference all × (1 ≤ length all) × (length all ≤ 2) in
    Makes-object_of IsPutOut groups_layout.keys value _ (
    Makes-member P IsPutOut (codes "by") (references 2) value _ (array-makes IsReference 1 2 reference reference-makes) (λ by h.
    Makes-member SomeAggs IsPutOut (codes "aggs") aggregates value _ aggregates-makes (λ aggs g.
    (((h.1, h.2), g.0), (h.0, g.1)))))

groups_of-makes : (value : Data) → Makes IsPutOut (groups_of value)
groups_of-makes value =
    Makes-object_of IsPutOut output_keys value _ (Makes-required IsPutOut (codes "groups") groups value groups-makes)

output_among-makes : (rows totals grouped : Bool) (value : Data) → Makes IsPutOut (output_among rows totals grouped value)
output_among-makes true false false value = rows_of-makes value
output_among-makes false true false value = totals_of-makes value
output_among-makes false false true value = groups_of-makes value
output_among-makes true true grouped value = tt
output_among-makes true false true value = tt
output_among-makes false true true value = tt
output_among-makes false false false value = tt

output-makes : (value : Data) → Makes IsPutOut (output value)
output-makes value = output_among-makes (has (codes "rows") value) (has (codes "totals") value) (has (codes "groups") value) value

-- ---- queries

query-makes : (value : Data) → Makes IsQuery (query value)
unfolding IsPutOut
query-makes value =
    let W = λ (low high n : ℕ). (low ≤ n) × (n ≤ high) in
    let F : List Filter → Type 0 = λ all. All IsFilter all × (length all ≤ 16) in
    let J : List Join → Type 0 = λ all. All FewJoin all × (0 ≤ length all) × (length all ≤ 2) in
    Makes-object_of IsQuery query_layout.keys value _ (
    Makes-member_or (W 0 16384) IsQuery (codes "after") 0 (whole 0 16384) value _ (omega arith, omega arith) (Makes-whole 0 16384) (λ after a.
    Makes-member_or (W 1 10) IsQuery (codes "weight") 10 (whole 1 10) value _ (omega arith, omega arith) (Makes-whole 1 10) (λ weight w.
    Makes-member_or (W 1 1000000) IsQuery (codes "cost") 100 (whole 1 1000000) value _ (omega arith, omega arith) (Makes-whole 1 1000000) (λ cost c.
    Makes-member Named IsQuery (codes "scan") name value _ name-makes (λ scan s.
    Makes-then F IsQuery (optional (codes "where") [] filters value) _ (where-makes value) (λ passed f.
    Makes-member_or J IsQuery (codes "joins") [] joins value _ (All-nil FewJoin, omega arith, omega arith) joins-makes (λ joined j.
    Makes-member IsPutOut IsQuery (codes "output") output value _ output-makes (λ put_out o.
    record {
      bounds = record {
        after = a.1;
        weight = w;
        cost = c;
        filters = f.1;
        joins = j.2;
        join_filters = λ k d within. (j.0 k d within).1;
        output = o.0;
      };
      scan = s;
      filters = f.0;
      joins = λ k d within. (j.0 k d within).0;
      output = o.1;
    }))))))))

-- ---- tables

Entries : List TableEntry → Type 0
Entries tables = All IsEntry tables × AllPairs (λ a b. a.name ≢ b.name) tables

false_parts : (a b : Bool) → (a || b) ≡ false → (a ≡ false) × (b ≡ false)
false_parts true b h = absurd (true≢false h)
false_parts false b h = (refl, h)

-- no earlier table has the name
not_taken : (earlier : List TableEntry) (bytes : List ℕ) → list_any (λ entry. bytes_eq entry.name bytes) earlier ≡ false
    → All (λ entry. entry.name ≢ bytes) earlier
not_taken [] bytes h = All-nil (λ entry. entry.name ≢ bytes)
not_taken (e ∷ earlier) bytes h =
    let both = false_parts (bytes_eq e.name bytes) (list_any (λ entry. bytes_eq entry.name bytes) earlier) h in
    All-cons (λ entry. entry.name ≢ bytes) e earlier
    (λ same. true≢false (sym ((bytes_eq-Decides e.name bytes).1 same) ∙ both.0))
    (not_taken earlier bytes both.1)

new_name-makes : (earlier : List TableEntry) (value : Data)
    → Makes (λ bytes. Named bytes × All (λ entry. entry.name ≢ bytes) earlier) (new_name earlier value)
new_name-makes earlier value =
    let P : List ℕ → Type 0 = λ bytes. Named bytes × All (λ entry. entry.name ≢ bytes) earlier in
    Makes-then Named P (name value) _ (name-makes value) (λ bytes is_named.
    Makes-unless P (list_any (λ entry. bytes_eq entry.name bytes) earlier) twice_named (Ok bytes) tt
    (λ free. (is_named, not_taken earlier bytes free)))

file_name-makes : (value : Data) → Makes (λ bytes. IsTrue (is_file_name bytes)) (file_name value)
file_name-makes value = Makes-text_of is_file_name value

table_entry-makes : (earlier : List TableEntry) (value : Data)
    → Makes (λ entry. IsEntry entry × All (λ e. e.name ≢ entry.name) earlier) (table_entry earlier value)
table_entry-makes earlier value =
    let P : TableEntry → Type 0 = λ entry. IsEntry entry × All (λ e. e.name ≢ entry.name) earlier in
    let N : List ℕ → Type 0 = λ bytes. Named bytes × All (λ e. e.name ≢ bytes) earlier in
    let F : List ℕ → Type 0 = λ bytes. IsTrue (is_file_name bytes) in
    Makes-object_of P (entry_layout earlier).keys value _ (
    Makes-member N P (codes "name") (new_name earlier) value _ (new_name-makes earlier) (λ title t.
    Makes-member F P (codes "file") file_name value _ file_name-makes (λ file f.
    (record { name = t.0; file = f }, t.1))))

tables-makes : (value : Data) → Makes (λ all. Entries all × (0 ≤ length all) × (length all ≤ 8)) (array_of 0 8 table_entry value)
unfolding Entries
tables-makes value =
    let R : TableEntry → TableEntry → Type 0 = λ a b. a.name ≢ b.name in
    Makes-array_of Entries 0 8 table_entry (All-nil IsEntry, λ i j d less within. absurd (omega arith))
    (λ earlier v so_far. Makes-weaker _ (λ a. Entries (earlier ++ a ∷ [])) (table_entry earlier v)
    (λ a h. (All-more IsEntry earlier a so_far.0 h.0, all_pairs_push R earlier a so_far.1 h.1))
    (table_entry-makes earlier v))
    value

-- ---- the script

version-makes : (value : Data) → Makes (λ _. ⊤) (version value)
version-makes value =
    Makes-found (λ _. ⊤) wrong_shape (as_number value) _ tt (λ written.
    Makes-refuse_if (not (option_map_or (nat_eq 1) (as_u64 written) false)) VersionUnknown tt)

unless_early : {B : Type 0} (Q : B → Type 0) (early : Option ℕ) (next : Reading B)
    → (early ≡ None → Makes Q next) → Makes Q (refuse_early early >> next)
unless_early Q None next h = h refl
unless_early Q (Some n) next h = tt

queries-makes : (value : Data)
    → Makes (λ all. All IsQuery all × (0 ≤ length all) × (length all ≤ 4096)) (array_of 0 4096 (λ _. query) value)
queries-makes value = array-makes IsQuery 0 4096 query query-makes value

-- what is known of the members of a script, whatever its queries wait for
abbrev HasParts : Script → Type 0
HasParts s =
    (Entries s.tables × (0 ≤ length s.tables) × (length s.tables ≤ 8)) ×
    (All IsQuery s.queries × (0 ≤ length s.queries) × (length s.queries ≤ 4096))

members-make : (value : Data) → Makes HasParts (reads_object script_layout value)
members-make value =
    let T : List TableEntry → Type 0 = λ all. Entries all × (0 ≤ length all) × (length all ≤ 8) in
    let Q : List Query → Type 0 = λ all. All IsQuery all × (0 ≤ length all) × (length all ≤ 4096) in
    let queries_form : Form (List Query) = array_of 0 4096 (λ _. query) in
    Makes-object_of HasParts script_layout.keys value _ (
    Makes-member (λ _. ⊤) HasParts (codes "version") version value _ version-makes (λ known _.
    Makes-member T HasParts (codes "tables") (array_of 0 8 table_entry) value _ tables-makes (λ tables t.
    Makes-member Q HasParts (codes "queries") queries_form value _ queries-makes (λ queries q. (t, q)))))

-- queries that were read are few, and within their limits
pub members-queries : (value : Data) (s : Script) → reads_object script_layout value ≡ Ok s
    → All IsInBounds s.queries × (length s.queries ≤ 4096)
members-queries value s is =
    let made = subst (λ (r : Reading Script). Makes HasParts r) is (members-make value) in
    ((λ k d within. (made.1.0 k d within).bounds), made.1.2)

-- a value is a well-formed script, or the refusal is of the value
pub script-makes : (value : Data) → Makes IsScript (script value)
unfolding Entries
script-makes value =
    Makes-after IsScript (or_refuse wrong_shape (as_object value)) _ (Makes-or_refuse wrong_shape (as_object value) tt) (
    Makes-after IsScript (required (codes "version") version value) _ (Makes-required (λ _. ⊤) (codes "version") version value version-makes) (
    Makes-then HasParts IsScript (reads_object script_layout value) _ (members-make value) (λ s parts.
    unless_early IsScript (first_early 0 0 s.queries) _ (λ none.
    record { few_tables = parts.0.2; tables = parts.0.0.0; names = parts.0.0.1; few_queries = parts.1.2; queries = parts.1.0; after = none }))))
