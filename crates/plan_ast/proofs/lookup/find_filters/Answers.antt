use Rattle.std.proofs.lemmas.Result.{err_from_is_err_and}
use Rattle.plan_ast.specs.Names.{own_column}
use Rattle.plan_ast.specs.Places.{filter_at, table_at}
use Rattle.plan_ast.specs.declared.queries.Filter.{Filter}
use Rattle.plan_ast.proofs.FoundLemmas.{there-filter_at}
use Rattle.plan_ast.proofs.MissingLemmas.{refused-map}
use Rattle.plan_ast.proofs.lookup.find_filters.Goals as goal

pub returns-in_err-find_filter-clause-refused : goal.returns-in_err-find_filter-clause-refused
returns-in_err-find_filter-clause-refused c =
    let tables = c.args.tables.now in
    let table = table_at tables c.args.side in
    let p = err_from_is_err_and c.from_residual-in_err-find_filter.result c.from_residual-in_err-find_filter.ensures.1 in
    rw (p.1, p.2)
    (refused-map tables (λ (f : Filter). own_column table f.column) (filter_at table) (there-filter_at tables table) c.args.filters.now
    c.loop-filter.filter-index c.filter-item.result c.loop-filter.found.items _
    c.loop-filter-test.true c.filter-item.is c.loop-filter.invariant c.in_err-find_filter.ensures.refused)
