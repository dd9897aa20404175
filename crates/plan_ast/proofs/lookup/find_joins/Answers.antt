use Rattle.std.proofs.Common.{◌<◌, ℕ, ◌∷◌, [], ◌++◌, take, length}
use Rattle.std.proofs.lemmas.List.Elements.{All-push}
use Rattle.std.proofs.lemmas.Result.{err_from_is_err_and}
use Rattle.plan_ast.specs.Names.{of_table, join_columns, table_named}
use Rattle.plan_ast.specs.Places.{IsJoinAt, IsRefusedBy, sides_at}
use Rattle.plan_ast.proofs.JoinsLemmas.{AreJoinsAt-more, adds_more, at_its_name, joined_sides, missing-table, refused-joins}
use Rattle.plan_ast.proofs.MissingLemmas.{refused_after, refused_before}
use Rattle.plan_ast.proofs.lookup.find_joins.Goals as goal

pub returns-in_err-place-clause-refused : goal.returns-in_err-place-clause-refused
returns-in_err-place-clause-refused c =
    let tables = c.args.tables.now in
    let old = c.args.sides.now.items in
    let joins = c.args.joins.now in
    let join = c.join-item.result in
    let p = err_from_is_err_and c.from_residual-in_err-place.result c.from_residual-in_err-place.ensures.1 in
    rw (p.1, p.2)
    (refused-joins tables (sides_at tables old) joins c.loop-join.join-index join c.loop-join.found.items c.loop-join.invariant.sides.added _
    c.loop-join-test.true c.join-item.is c.loop-join.invariant.found c.loop-join.invariant.sides.found
    (refused_before tables (of_table join.table ∷ [])
    (join_columns (sides_at tables old ++ joined_sides tables (take c.loop-join.join-index joins)) (table_named tables join.table) join) _
    c.in_err-place.ensures.refused))

pub returns-in_err-find_join-clause-refused : goal.returns-in_err-find_join-clause-refused
returns-in_err-find_join-clause-refused c =
    let tables = c.args.tables.now in
    let old = c.args.sides.now.items in
    let joins = c.args.joins.now in
    let before = take c.loop-join.join-index joins in
    let join = c.join-item.result in
    let place : ℕ = c.in_ok-place.place in
    let e = c.in_err-find_join.field-0.0 in
    let now = sides_at tables old ++ joined_sides tables before in
    let columns : IsRefusedBy tables (join_columns now (table_named tables join.table) join) e =
    at_its_name (λ s t. IsRefusedBy tables (join_columns s t join) e) tables before old c.loop-join.sides.items c.as_slice.result.now join.table place
    c.as_slice.ensures.value c.loop-join.invariant.sides c.in_ok-place.ensures.found c.in_err-find_join.ensures.refused in
    let p = err_from_is_err_and c.from_residual-in_err-find_join.result c.from_residual-in_err-find_join.ensures.1 in
    rw (p.1, p.2)
    (refused-joins tables (sides_at tables old) joins c.loop-join.join-index join c.loop-join.found.items c.loop-join.invariant.sides.added e
    c.loop-join-test.true c.join-item.is c.loop-join.invariant.found c.loop-join.invariant.sides.found
    (refused_after tables (of_table join.table ∷ []) (join_columns now (table_named tables join.table) join) e
    (missing-table tables join.table place c.in_ok-place.ensures.found) columns))

pub loop-join-preserved : goal.loop-join-preserved
loop-join-preserved c =
    let tables = c.args.tables.now in
    let old = c.args.sides.now.items in
    let joins = c.args.joins.now in
    let i = c.loop-join.join-index in
    let before = take i joins in
    let join = c.join-item.result in
    let place : ℕ = c.in_ok-place.place in
    let at = c.in_ok-find_join.field-0 in
    let now = sides_at tables old ++ joined_sides tables before in
    let this : IsJoinAt now (table_named tables join.table) join at =
    at_its_name (λ s t. IsJoinAt s t join at) tables before old c.loop-join.sides.items c.as_slice.result.now join.table place c.as_slice.ensures.value
    c.loop-join.invariant.sides c.in_ok-place.ensures.found c.in_ok-find_join.ensures.found in
    let pushed = c.in_ok-push-2.ensures.items in
    record {
      within = rw pushed (All-push (λ side. side < length tables) c.loop-join.sides.items place c.loop-join.invariant.within c.in_ok-place.ensures.within);
      sides = rw pushed (adds_more tables joins i join old c.loop-join.sides.items place c.loop-join-test.true c.join-item.is
          c.loop-join.invariant.sides c.in_ok-place.ensures.found);
      found = rw c.in_ok-push.ensures.items (AreJoinsAt-more tables (sides_at tables old) joins i join c.loop-join.found.items at
          c.loop-join-test.true c.join-item.is c.loop-join.invariant.found this);
    }
