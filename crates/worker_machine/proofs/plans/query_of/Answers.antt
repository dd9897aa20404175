use Rattle.std.proofs.Common.{sym, ap, ◌∙◌, subst}
use Rattle.plan_ast.specs.Bounds.{IsInBounds}
use Rattle.plan_ast.specs.Checks.{query_of}
use Rattle.plan_ast.specs.Stages.{stages_of}
use Rattle.plan_ast.specs.declared.queries.Query.{Query}
use Rattle.worker_machine.proofs.Tasks.{read-of-get, stages-of-get}
use Rattle.worker_machine.proofs.plans.query_of.Goals as goal

pub returns-clause-bounds : goal.returns-clause-bounds
returns-clause-bounds c = subst IsInBounds (sym (c.query-2.ensures ∙ ap query_of c.deref.ensures)) c.query.ensures.checked.bounds

pub returns-clause-stages : goal.returns-clause-stages
returns-clause-stages c =
    stages-of-get c.args.plan.now c.args.q _ c.query.ensures.query ∙ ap stages_of (sym (c.query-2.ensures ∙ ap query_of c.deref.ensures))

pub returns-clause-weight : goal.returns-clause-weight
returns-clause-weight c =
    read-of-get (λ (x : Query). x.weight) 1 c.args.plan.now c.args.q _ c.query.ensures.query
    ∙ ap (λ (x : Query). x.weight) (sym (c.query-2.ensures ∙ ap query_of c.deref.ensures))

pub returns-clause-after : goal.returns-clause-after
returns-clause-after c =
    read-of-get (λ (x : Query). x.after) 0 c.args.plan.now c.args.q _ c.query.ensures.query
    ∙ ap (λ (x : Query). x.after) (sym (c.query-2.ensures ∙ ap query_of c.deref.ensures))

pub returns-clause-cost : goal.returns-clause-cost
returns-clause-cost c =
    read-of-get (λ (x : Query). x.cost) 1 c.args.plan.now c.args.q _ c.query.ensures.query
    ∙ ap (λ (x : Query). x.cost) (sym (c.query-2.ensures ∙ ap query_of c.deref.ensures))
