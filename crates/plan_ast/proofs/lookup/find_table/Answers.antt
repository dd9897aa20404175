use Rattle.std.proofs.Common.{◌≡◌, List, ℕ, Some, is_some, inr, sym, ap, ◌∙◌, rules}
use Rattle.plan_ast.specs.Names.{of_table}
use Rattle.plan_ast.specs.declared.refusals.PlanRefusal.TheVariants.{UnknownTable}
use Rattle.plan_ast.proofs.MissingLemmas.{missing_here}
use Rattle.plan_ast.proofs.lookup.find_table.Goals as goal

pub returns-in_ok-clone-in-None-clause-refused : goal.returns-in_ok-clone-in-None-clause-refused
returns-in_ok-clone-in-None-clause-refused c =
    let same : c.in_ok-clone-in-None.field-0 ≡ c.args.name.now = search rules in
    inr (missing_here c.args.tables.now (of_table c.args.name.now) (ap is_some (sym c.in-None.ensures.found)) ∙ ap
    (λ (name : List ℕ). Some (UnknownTable name)) (sym same))
