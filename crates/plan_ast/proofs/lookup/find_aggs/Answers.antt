use Rattle.std.proofs.lemmas.Result.{err_from_is_err_and}
use Rattle.plan_ast.specs.Names.{agg_mention}
use Rattle.plan_ast.specs.Places.{agg_at, sides_at}
use Rattle.plan_ast.proofs.FoundLemmas.{missing-agg_at}
use Rattle.plan_ast.proofs.MissingLemmas.{refused-flat_map}
use Rattle.plan_ast.proofs.lookup.find_aggs.Goals as goal

pub returns-in_err-find_agg-clause-refused : goal.returns-in_err-find_agg-clause-refused
returns-in_err-find_agg-clause-refused c =
    let sides = sides_at c.args.tables.now c.args.sides.now in
    let p = err_from_is_err_and c.from_residual-in_err-find_agg.result c.from_residual-in_err-find_agg.ensures.1 in
    rw (p.1, p.2)
    (refused-flat_map c.args.tables.now (agg_mention sides) (agg_at sides) (missing-agg_at c.args.tables.now sides) c.args.aggs.now
    c.loop-agg.agg-index c.agg-item.result
    c.loop-agg.found.items _
    c.loop-agg-test.true c.agg-item.is c.loop-agg.invariant c.in_err-find_agg.ensures.refused)
