use Rattle.std.proofs.Common.{map}
use Rattle.std.proofs.lemmas.Result.{err_from_is_err_and}
use Rattle.plan_ast.specs.Names.{of_column, agg_mentions}
use Rattle.plan_ast.specs.Places.{column_at, sides_at}
use Rattle.plan_ast.proofs.FoundLemmas.{there-column_at}
use Rattle.plan_ast.proofs.MissingLemmas.{missing-map, refused_before, refused_after}
use Rattle.plan_ast.proofs.lookup.find_output.Goals as goal

pub returns-in_err-by-in-Groups-clause-refused : goal.returns-in_err-by-in-Groups-clause-refused
returns-in_err-by-in-Groups-clause-refused c =
    let tables = c.args.tables.now in
    let sides = sides_at tables c.args.sides.now in
    let p = err_from_is_err_and c.from_residual-in_err-by-in-Groups.result c.from_residual-in_err-by-in-Groups.ensures.1 in
    rw (p.1, p.2, c.in-Groups.is)
    (refused_before tables (map (of_column sides) c.in-Groups.by) (agg_mentions sides c.in-Groups.aggs) _
    (rw c.as_slice-in-Groups.ensures at c.in_err-by-in-Groups.ensures.refused))

pub returns-in_err-aggs-in-Groups-clause-refused : goal.returns-in_err-aggs-in-Groups-clause-refused
returns-in_err-aggs-in-Groups-clause-refused c =
    let tables = c.args.tables.now in
    let sides = sides_at tables c.args.sides.now in
    let p = err_from_is_err_and c.from_residual-in_err-aggs-in-Groups.result c.from_residual-in_err-aggs-in-Groups.ensures.1 in
    let found = rw c.as_slice-in-Groups.ensures at c.in_ok-by-in-Groups.ensures.found in
    rw (p.1, p.2, c.in-Groups.is)
    (refused_after tables (map (of_column sides) c.in-Groups.by) (agg_mentions sides c.in-Groups.aggs) _
    (missing-map tables (of_column sides) (column_at sides) (there-column_at tables sides) c.in-Groups.by c.in_ok-by-in-Groups.by found)
    (rw c.as_slice-in-Groups-2.ensures at c.in_err-aggs-in-Groups.ensures.refused))
