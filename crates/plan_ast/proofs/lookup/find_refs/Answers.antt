use Rattle.std.proofs.lemmas.Result.{err_from_is_err_and}
use Rattle.plan_ast.specs.Names.{of_column}
use Rattle.plan_ast.specs.Places.{column_at, sides_at}
use Rattle.plan_ast.proofs.FoundLemmas.{there-column_at}
use Rattle.plan_ast.proofs.MissingLemmas.{refused-map}
use Rattle.plan_ast.proofs.lookup.find_refs.Goals as goal

pub returns-in_err-find_ref-clause-refused : goal.returns-in_err-find_ref-clause-refused
returns-in_err-find_ref-clause-refused c =
    let sides = sides_at c.args.tables.now c.args.sides.now in
    let p = err_from_is_err_and c.from_residual-in_err-find_ref.result c.from_residual-in_err-find_ref.ensures.1 in
    rw (p.1, p.2)
    (refused-map c.args.tables.now (of_column sides) (column_at sides) (there-column_at c.args.tables.now sides) c.args.references.now
    c.loop-reference.reference-index
    c.reference-item.result c.loop-reference.found.items _
    c.loop-reference-test.true c.reference-item.is c.loop-reference.invariant c.in_err-find_ref.ensures.refused)
