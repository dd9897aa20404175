use Rattle.std.proofs.Common.{◌<◌, ◌≡◌, ◌++◌, ◌∷◌, [], length, sym, subst, arith}
use Rattle.std.proofs.lemmas.List.Elements.{All-push}
use Rattle.plan_ast.specs.Bounds.{IsInBounds}
use Rattle.plan_ast.specs.Checks.{IsCheckedFor}
use Rattle.sched_tool.specs.Refusals.{AreQueriesRefused}
use Rattle.sched_tool.proofs.QueriesLemmas.{AllAnswerable-more, first_refused, same_more}
use Rattle.sched_tool.proofs.program.subject.check_queries.Goals as goal

pub check-requires : goal.check-requires
check-requires c =
    let lt : c.loop-number.number < length c.args.queries.now = omega arith in
    subst IsInBounds (sym c.index-queries-number.is) (c.requires.in_bounds c.loop-number.number c.index-queries-number.result lt)

pub returns-in-Err-clause-err : goal.returns-in-Err-clause-err
returns-in-Err-clause-err c =
    let lt : c.loop-number.number < length c.args.queries.now = omega arith in
    subst (AreQueriesRefused (record { tables = c.args.tables.now; queries = c.args.queries.now })) (sym c.refusal_of_query.ensures)
    (first_refused
    (record { tables = c.args.tables.now; queries = c.args.queries.now }) c.loop-number.number c.index-queries-number.result lt c.index-queries-number.is
    c.loop-number.invariant.answerable c.in-Err.refusal c.in-Err.ensures.refused)

pub loop-number-preserved : goal.loop-number-preserved
loop-number-preserved c =
    let lt : c.loop-number.number < length c.args.queries.now = omega arith in
    let items : c.push.new.self.items ≡ c.loop-number.all.items ++ c.in-Ok.checked ∷ [] = c.in_ok-push-in-Ok.ensures.items in
    rw items record {
      same = same_more c.args.queries.now c.loop-number.all.items c.in-Ok.checked c.loop-number.number c.index-queries-number.result lt
          c.index-queries-number.is c.loop-number.invariant.same c.in-Ok.ensures.same_query;
      placed = All-push (IsCheckedFor c.args.tables.now) c.loop-number.all.items c.in-Ok.checked c.loop-number.invariant.placed c.in-Ok.ensures.placed;
      answerable = AllAnswerable-more c.args.tables.now c.args.queries.now c.loop-number.number c.index-queries-number.result lt c.index-queries-number.is
          c.loop-number.invariant.answerable c.in-Ok.ensures.accepted;
    }
