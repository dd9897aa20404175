-- A clone of a query is equal to it.
use Rattle.std.proofs.Common.{◌≡◌, List, Option, Some, None, refl, ap, rules}
use Rattle.std.specs.List.{AllZip}
use Rattle.std.proofs.lemmas.List.Elements.{same_from_all_zip}
use Rattle.plan_ast.specs.declared.queries.NameRef.{NameRef}
use Rattle.plan_ast.specs.declared.queries.Filter.{Filter}
use Rattle.plan_ast.specs.declared.queries.Join.{Join}
use Rattle.plan_ast.specs.declared.queries.Func.{Func}
use Rattle.plan_ast.specs.declared.queries.Agg.{Agg}
use Rattle.plan_ast.specs.declared.queries.Output.{Output}
use Rattle.plan_ast.specs.declared.queries.Output.TheVariants.{Rows, Totals, Groups}
use Rattle.plan_ast.specs.declared.queries.Query.{Query}
use Rattle.plan_ast.specs.contracts.queries.NameRefClone.TheImpl as of_name_ref
use Rattle.plan_ast.specs.contracts.queries.FilterClone.TheImpl as of_filter
use Rattle.plan_ast.specs.contracts.queries.JoinClone.TheImpl as of_join
use Rattle.plan_ast.specs.contracts.queries.AggClone.TheImpl as of_agg
use Rattle.plan_ast.specs.contracts.queries.OutputClone.TheImpl as of_output
use Rattle.plan_ast.specs.contracts.queries.QueryClone.TheImpl as of_query

same-NameRef : (x y : NameRef) → (of_name_ref.is_clone-value).it x y → y ≡ x
same-NameRef x y is = search rules

same-Filter : (x y : Filter) → (of_filter.is_clone-value).it x y → y ≡ x
same-Filter x y is = search rules

same-filters : (xs ys : List Filter) → AllZip (of_filter.is_clone-value).it xs ys → ys ≡ xs
same-filters xs ys is = same_from_all_zip (of_filter.is_clone-value).it xs ys is same-Filter

same-refs : (xs ys : List NameRef) → AllZip (of_name_ref.is_clone-value).it xs ys → ys ≡ xs
same-refs xs ys is = same_from_all_zip (of_name_ref.is_clone-value).it xs ys is same-NameRef

same-Join : (x y : Join) → (of_join.is_clone-value).it x y → y ≡ x
same-Join x y is =
    let left : y.left ≡ x.left = same-NameRef x.left y.left is.1.0 in
    let filters : y.filters ≡ x.filters = same-filters x.filters y.filters is.1.1.1 in
    search rules

same-joins : (xs ys : List Join) → AllZip (of_join.is_clone-value).it xs ys → ys ≡ xs
same-joins xs ys is = same_from_all_zip (of_join.is_clone-value).it xs ys is same-Join

same-column : (f g : Func) (a b : Option NameRef) → (of_agg.is_clone-value).it (record { func = f; column = a }) (record { func = g; column = b }) → b ≡ a
same-column f g None None is = refl
same-column f g None (Some b) is = absurd is.1
same-column f g (Some a) None is = absurd is.1
same-column f g (Some a) (Some b) is = ap Some (same-NameRef a b is.1)

same-Agg : (x y : Agg) → (of_agg.is_clone-value).it x y → y ≡ x
same-Agg x y is =
    let column : y.column ≡ x.column = same-column x.func y.func x.column y.column is in
    search rules

same-aggs : (xs ys : List Agg) → AllZip (of_agg.is_clone-value).it xs ys → ys ≡ xs
same-aggs xs ys is = same_from_all_zip (of_agg.is_clone-value).it xs ys is same-Agg

same-Output : (x y : Output) → (of_output.is_clone-value).it x y → y ≡ x
same-Output (Rows a) (Rows b) is = ap Rows (same-refs a b is)
same-Output (Totals a) (Totals b) is = ap Totals (same-aggs a b is)
same-Output (Groups a c) (Groups b d) is =
    let by : b ≡ a = same-refs a b is.0 in
    let aggs : d ≡ c = same-aggs c d is.1 in
    cc
same-Output (Rows a) (Totals b) is = absurd is
same-Output (Rows a) (Groups b d) is = absurd is
same-Output (Totals a) (Rows b) is = absurd is
same-Output (Totals a) (Groups b d) is = absurd is
same-Output (Groups a c) (Rows b) is = absurd is
same-Output (Groups a c) (Totals b) is = absurd is

pub same-Query : (x y : Query) → (of_query.is_clone-value).it x y → y ≡ x
same-Query x y is =
    let filters : y.filters ≡ x.filters = same-filters x.filters y.filters is.1.1.1.1.0 in
    let joins : y.joins ≡ x.joins = same-joins x.joins y.joins is.1.1.1.1.1.0 in
    let output : y.output ≡ x.output = same-Output x.output y.output is.1.1.1.1.1.1 in
    search rules
