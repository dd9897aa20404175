-- What was found is there.
use Rattle.std.proofs.Common.{◌≡◌, List, true, Option, Some, None, option_map, option_to_list, refl}
use Rattle.col_table.specs.NamedRows.{NamedRows}
use Rattle.plan_ast.specs.Names.{is_there, of_column, own_column, column_in, column_place, agg_mention, first_missing}
use Rattle.plan_ast.specs.Places.{column_at, filter_at, folded_at, agg_at}
use Rattle.plan_ast.specs.declared.queries.NameRef.{NameRef}
use Rattle.plan_ast.specs.declared.queries.Filter.{Filter}
use Rattle.plan_ast.specs.declared.queries.Agg.{Agg}
use Rattle.plan_ast.specs.declared.queries.NamedTable.{NamedTable}
use Rattle.plan_ast.specs.declared.places.ColumnAt.{ColumnAt}
use Rattle.plan_ast.specs.declared.places.FilterAt.{FilterAt}
use Rattle.plan_ast.specs.declared.places.AggAt.{AggAt}
use Rattle.plan_ast.proofs.MissingLemmas.{is_some-option_map, missing_there}

pub there-column_at : (tables : List NamedTable) (sides : List NamedRows) (ref : NameRef) (at : ColumnAt) → column_at sides ref ≡ Some at → is_there
    tables (of_column sides ref) ≡ true
there-column_at tables sides ref at found = is_some-option_map _ (column_in sides ref) at found

pub there-filter_at : (tables : List NamedTable) (table : NamedRows) (filter : Filter) (at : FilterAt) → filter_at table filter ≡ Some at → is_there
    tables (own_column table filter.column) ≡ true
there-filter_at tables table filter at found = is_some-option_map _ (column_place table filter.column) at found

some_under : {A B : Type 0} (f : A → B) (o : Option A) (y : B) → option_map f o ≡ Some y → (x : A) × (o ≡ Some x)
some_under f None y is = absurd (cc)
some_under f (Some x) y is = (x, refl)

missing-folded_at : (tables : List NamedTable) (sides : List NamedRows) (column : Option NameRef) (at : Option ColumnAt) → folded_at sides column ≡ Some at
    → first_missing tables (option_to_list (option_map (of_column sides) column)) ≡ None
missing-folded_at tables sides None at found = refl
missing-folded_at tables sides (Some ref) at found =
    let under = some_under _ (column_at sides ref) at found in
    missing_there tables (of_column sides ref) (there-column_at tables sides ref under.0 under.1)

pub missing-agg_at : (tables : List NamedTable) (sides : List NamedRows) (agg : Agg) (at : AggAt) → agg_at sides agg ≡ Some at → first_missing tables
    (agg_mention sides agg) ≡ None
missing-agg_at tables sides agg at found =
    let under = some_under _ (folded_at sides agg.column) at found in
    missing-folded_at tables sides agg.column under.0 under.1
