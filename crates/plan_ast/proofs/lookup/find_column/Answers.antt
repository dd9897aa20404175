use Rattle.std.proofs.Common.{◌≡◌, inr, ap, rules}
use Rattle.plan_ast.specs.declared.refusals.PlanRefusal.TheVariants.{UnknownColumn}
use Rattle.plan_ast.proofs.PlacesLemmas.{column_place-found, column_place-missing}
use Rattle.plan_ast.proofs.lookup.find_column.Goals as goal

pub returns-in-Some-clause-found : goal.returns-in-Some-clause-found
returns-in-Some-clause-found c =
    column_place-found _ c.args.name.now c.in-Some.column c.in-Some.ensures.table.heading.differ c.in-Some.ensures.found

pub returns-in_ok-clone-in-None-clause-refused : goal.returns-in_ok-clone-in-None-clause-refused
returns-in_ok-clone-in-None-clause-refused c =
    let same : c.in_ok-clone-in-None.field-0 ≡ c.args.name.now = search rules in
    inr (column_place-missing _ c.args.name.now c.in-None.ensures.found, ap UnknownColumn same)
