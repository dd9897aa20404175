use Rattle.std.proofs.Common.{◌≡◌, sym, subst}
use Rattle.plan_ast.specs.Bounds.{IsInBounds}
use Rattle.plan_ast.specs.Places.{ArePlacesOf}
use Rattle.plan_ast.specs.declared.queries.Query.{Query}
use Rattle.plan_ast.proofs.CloneLemmas.{same-Query}
use Rattle.plan_ast.proofs.QueryLemmas.{refusal_of-placed}
use Rattle.plan_ast.proofs.checks.check.Goals as goal

pub returns-clause-accepted : goal.returns-clause-accepted
returns-clause-accepted c = refusal_of-placed c.args.tables.now c.args.query.now c.in_ok-places.places c.in_ok-places.ensures.found

pub returns-clause-same_query : goal.returns-clause-same_query
returns-clause-same_query c =
    same-Query c.args.query.now c.in_ok-query.query c.in_ok-query.ensures.cases

pub returns-clause-placed : goal.returns-clause-placed
returns-clause-placed c =
    let same : c.args.query.now ≡ c.in_ok-query.query = sym (same-Query c.args.query.now c.in_ok-query.query c.in_ok-query.ensures.cases) in
    record {
      bounds = subst IsInBounds same c.requires;
      places = subst (λ (q : Query). ArePlacesOf c.args.tables.now q c.in_ok-places.places) same c.in_ok-places.ensures.found;
    }
