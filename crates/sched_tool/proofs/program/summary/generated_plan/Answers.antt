use Rattle.std.proofs.Common.{◌≡◌, subst, sym, ◌∙◌}
use Rattle.std.proofs.lemmas.Result.{err_from_is_err_and}
use Rattle.plan_ast.specs.Subject.{Subject}
use Rattle.sched_tool.specs.Subjects.{AllAnswerable}
use Rattle.sched_tool.proofs.RefusalLemmas.{only_memory}
use Rattle.sched_tool.proofs.program.summary.generated_plan.Goals as goal

pub returns-in_err-queries-clause-err : goal.returns-in_err-queries-clause-err
returns-in_err-queries-clause-err c =
    let p = err_from_is_err_and c.from_residual-in_err-queries.result c.from_residual-in_err-queries.ensures.1 in
    let made = c.in_ok-script.field-0 in
    let tables : c.as_slice.result.now ≡ made.tables = c.as_slice.ensures.value ∙ c.into_vec-tables.ensures in
    let queries : c.as_slice-2.result.now ≡ made.script.queries = c.as_slice-2.ensures in
    let subject : Subject = record { tables = c.as_slice.result.now; queries = c.as_slice-2.result.now } in
    let all : AllAnswerable subject.tables subject.queries =
    subst (AllAnswerable subject.tables) (sym queries) (subst (λ t. AllAnswerable t made.script.queries) (sym tables) c.in_ok-script.ensures.names) in
    rw (p.1, p.2) (only_memory subject c.in_err-queries.field-0.0 all c.in_err-queries.ensures.err)
