use Rattle.std.proofs.lemmas.Result.{err_from_is_err_and}
use Rattle.plan_ast.proofs.QueryLemmas.{refused-filters, refused-joined, refused-output, placed-query}
use Rattle.plan_ast.proofs.lookup.find_places.Goals as goal

pub returns-in_err-filters-clause-refused : goal.returns-in_err-filters-clause-refused
returns-in_err-filters-clause-refused c =
    let p = err_from_is_err_and c.from_residual-in_err-filters.result c.from_residual-in_err-filters.ensures.1 in
    rw (p.1, p.2)
    (refused-filters c.args.tables.now c.args.query.now c.in_ok-scanned.scanned _ c.in_ok-scanned.ensures.found
    (rw c.as_slice.ensures at c.in_err-filters.ensures.refused))

pub returns-in_err-joins-clause-refused : goal.returns-in_err-joins-clause-refused
returns-in_err-joins-clause-refused c =
    let p = err_from_is_err_and c.from_residual-in_err-joins.result c.from_residual-in_err-joins.ensures.1 in
    rw (p.1, p.2)
    (refused-joined c.args.tables.now c.args.query.now c.in_ok-scanned.scanned c.in_ok-filters.filters _ c.in_ok-scanned.ensures.found
    (rw c.as_slice.ensures at c.in_ok-filters.ensures.found) (rw (c.as_slice-2.ensures, c.in_ok-sides.ensures.items) at c.in_err-joins.ensures.refused))

pub returns-in_err-output-clause-refused : goal.returns-in_err-output-clause-refused
returns-in_err-output-clause-refused c =
    let p = err_from_is_err_and c.from_residual-in_err-output.result c.from_residual-in_err-output.ensures.1 in
    rw (p.1, p.2)
    (refused-output c.args.tables.now c.args.query.now c.in_ok-scanned.scanned c.in_ok-filters.filters c.in_ok-joins.joins _ _ c.in_ok-scanned.ensures.found
    (rw c.as_slice.ensures at c.in_ok-filters.ensures.found) (rw (c.as_slice-2.ensures, c.in_ok-sides.ensures.items) at c.in_ok-joins.ensures.found)
    (rw (c.as_slice-2.ensures, c.in_ok-sides.ensures.items) at c.in_ok-joins.ensures.sides) (rw c.as_slice-3.ensures.value at c.in_err-output.ensures.refused))

pub returns-clause-found : goal.returns-clause-found
returns-clause-found c =
    placed-query c.args.tables.now c.args.query.now c.in_ok-scanned.scanned _ c.in_ok-scanned.ensures.found
    (rw c.as_slice.ensures at c.in_ok-filters.ensures.found) (rw (c.as_slice-2.ensures, c.in_ok-sides.ensures.items) at c.in_ok-joins.ensures.found)
    (rw c.of.ensures (rw (c.as_slice-2.ensures, c.in_ok-sides.ensures.items) at c.in_ok-joins.ensures.sides))
    (rw c.of.ensures (rw c.as_slice-3.ensures.value at c.in_ok-output.ensures.found))
