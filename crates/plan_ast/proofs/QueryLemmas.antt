-- A whole query, and its names.
use Rattle.std.proofs.Common.{◌≡◌, ℕ, List, [], ◌∷◌, ◌++◌, map, Some, None, Option, sym, ap, ◌∙◌, subst}
use Rattle.col_table.specs.NamedRows.{NamedRows}
use Rattle.plan_ast.specs.Names.{Mention, of_table, of_column, own_column, table_named, table_place, agg_mention, agg_mentions, filter_mentions}
use Rattle.plan_ast.specs.Names.{join_tables, joins_mentions, output_mentions, side_names, sides_of, first_missing, mentions_of, refusal_of}
use Rattle.plan_ast.specs.Places.{AddsTables, AreFound, ArePlacesOf, AreJoinsAt, IsOutputAt, IsRefusedBy, column_at, filter_at, agg_at, sides_at, table_at}
use Rattle.plan_ast.specs.declared.queries.Agg.{Agg}
use Rattle.plan_ast.specs.declared.queries.Filter.{Filter}
use Rattle.plan_ast.specs.declared.queries.Output.{Output}
use Rattle.plan_ast.specs.declared.queries.Output.TheVariants as named
use Rattle.plan_ast.specs.declared.queries.NamedTable.{NamedTable}
use Rattle.plan_ast.specs.declared.queries.Query.{Query}
use Rattle.plan_ast.specs.declared.places.AggAt.{AggAt}
use Rattle.plan_ast.specs.declared.places.FilterAt.{FilterAt}
use Rattle.plan_ast.specs.declared.places.JoinAt.{JoinAt}
use Rattle.plan_ast.specs.declared.places.OutputAt.{OutputAt}
use Rattle.plan_ast.specs.declared.places.OutputAt.TheVariants as placed
use Rattle.plan_ast.specs.declared.places.Places.{Places}
use Rattle.plan_ast.specs.declared.refusals.PlanRefusal.{PlanRefusal}
use Rattle.plan_ast.proofs.FoundLemmas.{there-column_at, there-filter_at, missing-agg_at}
use Rattle.plan_ast.proofs.JoinsLemmas.{joined_sides, missing-joins, missing-table, sides_at-added, table_named-found}
use Rattle.plan_ast.proofs.MissingLemmas.{missing-map, missing-flat_map, missing_after, refused_after, refused_before}

-- the mentions of the scan, and those up to the last join
abbrev pub scan_mentions : List NamedTable → Query → List Mention
scan_mentions tables query = of_table query.scan ∷ filter_mentions (table_named tables query.scan) query.filters

abbrev pub joined_mentions : List NamedTable → Query → List Mention
joined_mentions tables query = scan_mentions tables query ++ joins_mentions tables (table_named tables query.scan ∷ []) query.joins

-- ---- the sides

pub sides_of-added : (tables : List NamedTable) (query : Query) (place : ℕ) (new : List ℕ) → table_place tables query.scan ≡ Some place → AddsTables
    tables (join_tables query.joins) (place ∷ []) new
    → sides_at tables new ≡ sides_of tables query
sides_of-added tables query place new found adds =
    sides_at-added tables query.joins (place ∷ []) new adds ∙ ap (λ t. t ∷ joined_sides tables query.joins)
    (sym (table_named-found tables query.scan place found))

pub side_names-added : (tables : List NamedTable) (query : Query) (place : ℕ) (new : List ℕ) → table_place tables query.scan ≡ Some place → AddsTables
    tables (join_tables query.joins) (place ∷ []) new
    → AreFound (table_place tables) (side_names query) new
side_names-added tables query place new found adds =
    ap (λ o. o ∷ map (table_place tables) (join_tables query.joins)) found ∙ ap (λ v. Some place ∷ v) adds.found ∙ ap (map Some) (sym adds.is)

-- the scanned table by its name
placed_parts : (tables : List NamedTable) (query : Query) (place : ℕ) (ats : List FilterAt) (js : List JoinAt) → table_place tables query.scan ≡ Some place
    → AreFound (filter_at (table_at tables place)) query.filters ats → AreJoinsAt tables (sides_at tables (place ∷ [])) query.joins js
    → AreFound (filter_at (table_named tables query.scan)) query.filters ats × AreJoinsAt tables (table_named tables query.scan ∷ []) query.joins js
placed_parts tables query place ats js found filters joins =
    let at = sym (table_named-found tables query.scan place found) in (
      subst (λ (t : NamedRows). AreFound (filter_at t) query.filters ats) at filters,
      subst
          (λ (t : NamedRows). AreJoinsAt tables (t ∷ []) query.joins js) at joins,
    )

-- ---- nothing is missing

missing-aggs : (tables : List NamedTable) (sides : List NamedRows) (aggs : List Agg) (ats : List AggAt) → AreFound (agg_at sides) aggs ats →
    first_missing tables (agg_mentions sides aggs) ≡ None
missing-aggs tables sides aggs ats found = missing-flat_map tables (agg_mention sides) (agg_at sides) (missing-agg_at tables sides) aggs ats found

missing-output : (tables : List NamedTable) (sides : List NamedRows) (output : Output) (at : OutputAt) → IsOutputAt sides output at → first_missing
    tables (output_mentions sides output) ≡ None
missing-output tables sides (named.Rows columns) (placed.Rows ats) is = missing-map tables (of_column sides) (column_at sides)
    (there-column_at tables sides) columns ats is
missing-output tables sides (named.Rows columns) (placed.Totals ats) is = absurd is
missing-output tables sides (named.Rows columns) (placed.Groups keys ats) is = absurd is
missing-output tables sides (named.Totals aggs) (placed.Rows ats) is = absurd is
missing-output tables sides (named.Totals aggs) (placed.Totals ats) is = missing-aggs tables sides aggs ats is
missing-output tables sides (named.Totals aggs) (placed.Groups keys ats) is = absurd is
missing-output tables sides (named.Groups by aggs) (placed.Rows ats) is = absurd is
missing-output tables sides (named.Groups by aggs) (placed.Totals ats) is = absurd is
missing-output tables sides (named.Groups by aggs) (placed.Groups keys ats) is =
    missing_after tables (map (of_column sides) by) (agg_mentions sides aggs)
    (missing-map tables (of_column sides) (column_at sides) (there-column_at tables sides) by keys is.0)
    ∙ missing-aggs tables sides aggs ats is.1

missing-scan : (tables : List NamedTable) (query : Query) (place : ℕ) (ats : List FilterAt) → table_place tables query.scan ≡ Some place → AreFound
    (filter_at (table_named tables query.scan)) query.filters ats
    → first_missing tables (scan_mentions tables query) ≡ None
missing-scan tables query place ats found filters =
    let table = table_named tables query.scan in
    missing_after tables (of_table query.scan ∷ []) (filter_mentions table query.filters) (missing-table tables query.scan place found)
    ∙ missing-map tables (λ (f : Filter). own_column table f.column) (filter_at table) (there-filter_at tables table) query.filters ats filters

-- the joins follow the scan, and nothing of either is missing
missing-joined : (tables : List NamedTable) (query : Query) (place : ℕ) (ats : List FilterAt) (js : List JoinAt) (places : List ℕ) → table_place
    tables query.scan ≡ Some place
    → AreFound (filter_at (table_named tables query.scan)) query.filters ats → AreJoinsAt tables (table_named tables query.scan ∷ []) query.joins js →
    AreFound (table_place tables) (join_tables query.joins) places
    → first_missing tables (joined_mentions tables query) ≡ None
missing-joined tables query place ats js places found filters joins others =
    missing_after tables (scan_mentions tables query) (joins_mentions tables (table_named tables query.scan ∷ []) query.joins)
    (missing-scan tables query place ats found filters)
    ∙ missing-joins tables (table_named tables query.scan ∷ []) query.joins js places joins others

found_first : {X Y : Type 0} (at : X → Option Y) (x : X) (xs : List X) (ys : List Y) → AreFound at (x ∷ xs) ys → (y : Y) × (rest : List Y) ×
    (at x ≡ Some y) × AreFound at xs rest
found_first at x xs [] is = absurd (cc)
found_first at x xs (y ∷ ys) is = (y, ys, cc, cc)

-- each name of a query whose places are known is there
pub refusal_of-placed : (tables : List NamedTable) (query : Query) (places : Places) → ArePlacesOf tables query places → refusal_of tables query ≡ None
refusal_of-placed tables query places is =
    let sides = found_first (table_place tables) query.scan (join_tables query.joins) places.tables is.sides in
    missing_after tables (joined_mentions tables query) (output_mentions (sides_of tables query) query.output)
    (missing-joined tables query sides.0 places.filters places.joins sides.1 sides.2 is.filters is.joins sides.3)
    ∙ missing-output tables (sides_of tables query) query.output places.output is.output

-- ---- refused parts

pub refused-filters : (tables : List NamedTable) (query : Query) (place : ℕ) (e : PlanRefusal) → table_place tables query.scan ≡ Some place →
    IsRefusedBy tables (filter_mentions (table_at tables place) query.filters) e
    → IsRefusedBy tables (mentions_of tables query) e
refused-filters tables query place e found refused =
    let table = table_named tables query.scan in
    let joins = joins_mentions tables (table ∷ []) query.joins in
    let this : IsRefusedBy tables (filter_mentions table query.filters) e =
    subst (λ (t : NamedRows). IsRefusedBy tables (filter_mentions t query.filters) e) (sym (table_named-found tables query.scan place found)) refused in
    refused_before tables (joined_mentions tables query) (output_mentions (sides_of tables query) query.output) e
    (refused_before tables (scan_mentions tables query) joins e
    (refused_after tables (of_table query.scan ∷ []) (filter_mentions table query.filters) e (missing-table tables query.scan place found) this))

pub refused-joined : (tables : List NamedTable) (query : Query) (place : ℕ) (ats : List FilterAt) (e : PlanRefusal) → table_place tables query.scan ≡ Some place
    → AreFound (filter_at (table_at tables place)) query.filters ats → IsRefusedBy tables
    (joins_mentions tables (sides_at tables (place ∷ [])) query.joins) e → IsRefusedBy tables (mentions_of tables query) e
refused-joined tables query place ats e found filters refused =
    let table = table_named tables query.scan in
    let at = sym (table_named-found tables query.scan place found) in
    let joins = joins_mentions tables (table ∷ []) query.joins in
    let this : IsRefusedBy tables joins e = subst (λ (t : NamedRows). IsRefusedBy tables (joins_mentions tables (t ∷ []) query.joins) e) at refused in
    let placed : AreFound (filter_at table) query.filters ats = subst (λ (t : NamedRows). AreFound (filter_at t) query.filters ats) at filters in
    refused_before tables (joined_mentions tables query) (output_mentions (sides_of tables query) query.output) e
    (refused_after tables (scan_mentions tables query) joins e (missing-scan tables query place ats found placed) this)

pub refused-output : (tables : List NamedTable) (query : Query) (place : ℕ) (ats : List FilterAt) (js : List JoinAt) (new : List ℕ) (e : PlanRefusal)
    → table_place tables query.scan ≡ Some place
    → AreFound (filter_at (table_at tables place)) query.filters ats → AreJoinsAt tables (sides_at tables (place ∷ [])) query.joins js → AddsTables
    tables (join_tables query.joins) (place ∷ []) new
    → IsRefusedBy tables (output_mentions (sides_at tables new) query.output) e → IsRefusedBy tables (mentions_of tables query) e
refused-output tables query place ats js new e found filters joins adds refused =
    let is = placed_parts tables query place ats js found filters joins in
    refused_after tables (joined_mentions tables query) (output_mentions (sides_of tables query) query.output) e
    (missing-joined tables query place ats js adds.added found is.0 is.1 adds.found)
    (subst (λ (s : List NamedRows). IsRefusedBy tables (output_mentions s query.output) e) (sides_of-added tables query place new found adds) refused)

-- the places of a query, from those of its parts
pub placed-query : (tables : List NamedTable) (query : Query) (place : ℕ) (places : Places) → table_place tables query.scan ≡ Some place
    → AreFound (filter_at (table_at tables place)) query.filters places.filters → AreJoinsAt tables (sides_at tables (place ∷ [])) query.joins places.joins
    → AddsTables tables (join_tables query.joins) (place ∷ []) places.tables → IsOutputAt (sides_at tables places.tables) query.output places.output →
    ArePlacesOf tables query places
placed-query tables query place places found filters joins adds output =
    let is = placed_parts tables query place places.filters places.joins found filters joins in
    record {
      sides = side_names-added tables query place places.tables found adds;
      filters = is.0;
      joins = is.1;
      output = subst (λ (s : List NamedRows). IsOutputAt s query.output places.output) (sides_of-added tables query place places.tables found adds) output;
    }
