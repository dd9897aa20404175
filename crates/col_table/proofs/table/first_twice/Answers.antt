use Rattle.std.proofs.Common.{below_more, arith}
use Rattle.col_table.proofs.NameFacts.{StoodBefore-from_any, not_StoodBefore-from_any}
use Rattle.col_table.proofs.table.first_twice.Goals as goal

pub returns-then-contains : goal.returns-then-contains
returns-then-contains c = record {
  within = omega arith;
  twice = StoodBefore-from_any c.args.names.now c.loop-place.place c.index-names-place.result (omega arith) c.index-names-place.is c.if-contains.ensures.cases;
  first = c.loop-place.invariant;
}

pub loop-place-preserved : goal.loop-place-preserved
loop-place-preserved c =
    below_more _ _ c.loop-place.invariant (not_StoodBefore-from_any c.args.names.now c.loop-place.place c.index-names-place.result (omega arith)
    c.index-names-place.is c.if-contains.ensures.cases)

pub returns : goal.returns
returns c = λ place h. c.loop-place.invariant place (omega arith)
