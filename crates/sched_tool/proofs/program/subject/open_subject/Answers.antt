use Rattle.std.proofs.Common.{All, subst, sym, ◌∙◌}
use Rattle.std.proofs.lemmas.Result.{err_from_is_err_and}
use Rattle.plan_ast.specs.Checks.{IsCheckedFor}
use Rattle.plan_ast.specs.Subject.{Subject}
use Rattle.sched_tool.specs.Outsides.{may_hold}
use Rattle.sched_tool.specs.ReadFaults.{FaultsAt}
use Rattle.sched_tool.specs.Refusals.{AreTablesRefused}
use Rattle.sched_tool.specs.Subjects.{AllAnswerable, HoldsSubject, HoldTables, subject_in}
use Rattle.sched_tool.proofs.RefusalLemmas.{FaultsAt-queries, queries_refused, tables_refused}
use Rattle.sched_tool.proofs.SubjectsLemmas.{same_content}
use Rattle.sched_tool.proofs.program.subject.open_subject.Goals as goal

pub returns-in_err-tables-2-clause-err : goal.returns-in_err-tables-2-clause-err
returns-in_err-tables-2-clause-err g c =
    let p = err_from_is_err_and c.from_residual-in_err-tables-2.result c.from_residual-in_err-tables-2.ensures.1 in
    let script = c.in_ok-tables.field-0 in
    let refused = subst (λ content. AreTablesRefused (may_hold content) script.tables c.in_err-tables-2.field-0.0)
    (same_content _ _ c.open_script.ensures.kept) c.in_err-tables-2.ensures.err in
    rw (p.1, p.2) (tables_refused _ c.args.file.now script c.in_err-tables-2.field-0.0 c.in_ok-tables.ensures.ok refused)

pub returns-in_err-tables-2-clause-faults : goal.returns-in_err-tables-2-clause-faults
returns-in_err-tables-2-clause-faults g c =
    let p = err_from_is_err_and c.from_residual-in_err-tables-2.result c.from_residual-in_err-tables-2.ensures.1 in
    rw (p.1, p.2)
    (subst (λ before. FaultsAt c.in_err-tables-2.field-0.0 before (g.F.Files.failed c.open_tables.new.files)) c.in_ok-tables.ensures.no_fault
    c.in_err-tables-2.ensures.faults)

pub returns-in_err-checked-clause-err : goal.returns-in_err-checked-clause-err
returns-in_err-checked-clause-err g c =
    let p = err_from_is_err_and c.from_residual-in_err-checked.result c.from_residual-in_err-checked.ensures.1 in
    let script = c.in_ok-tables.field-0 in
    let loaded = subst (λ content. HoldTables (may_hold content) script.tables c.in_ok-tables-2.tables.items)
    (same_content _ _ c.open_script.ensures.kept) c.in_ok-tables-2.ensures.ok in
    let subject : Subject = record { tables = c.as_slice.result.now; queries = c.as_slice-2.result.now } in
    let held : HoldsSubject (may_hold (g.F.Files.content c.args.files.now)) c.args.file.now subject = record {
      script = script;
      held = c.in_ok-tables.ensures.ok;
      tables = subst (HoldTables (may_hold (g.F.Files.content c.args.files.now)) script.tables) (sym c.as_slice.ensures.value) loaded;
      queries = c.as_slice-2.ensures;
    } in
    rw (p.1, p.2) (queries_refused _ c.args.file.now subject c.in_err-checked.field-0.0 held c.in_err-checked.ensures.err)

pub returns-in_err-checked-clause-faults : goal.returns-in_err-checked-clause-faults
returns-in_err-checked-clause-faults g c =
    let p = err_from_is_err_and c.from_residual-in_err-checked.result c.from_residual-in_err-checked.ensures.1 in
    let subject : Subject = record { tables = c.as_slice.result.now; queries = c.as_slice-2.result.now } in
    rw (p.1, p.2)
    (FaultsAt-queries subject c.in_err-checked.field-0.0 _ _ c.in_err-checked.ensures.err (c.in_ok-tables-2.ensures.no_fault ∙ c.in_ok-tables.ensures.no_fault))

pub returns-clause-accepted : goal.returns-clause-accepted
returns-clause-accepted g c =
    let script = c.in_ok-tables.field-0 in
    let subject : Subject = subject_in (record { tables = c.in_ok-tables-2.tables; queries = c.in_ok-checked.checked }) in
    let loaded = subst (λ content. HoldTables (may_hold content) script.tables c.in_ok-tables-2.tables.items)
    (same_content _ _ c.open_script.ensures.kept) c.in_ok-tables-2.ensures.ok in
    let held : HoldsSubject (may_hold (g.F.Files.content c.args.files.now)) c.args.file.now subject = record {
      script = script;
      held = c.in_ok-tables.ensures.ok;
      tables = loaded;
      queries = c.in_ok-checked.ensures.same ∙ c.as_slice-2.ensures;
    } in
    let answerable : AllAnswerable subject.tables subject.queries =
    subst (AllAnswerable subject.tables) (sym c.in_ok-checked.ensures.same)
    (subst (λ t. AllAnswerable t c.as_slice-2.result.now) c.as_slice.ensures.value c.in_ok-checked.ensures.answerable) in
    record { held = held; answerable = answerable }

pub returns-clause-placed : goal.returns-clause-placed
returns-clause-placed g c =
    subst (λ t. All (IsCheckedFor t) c.in_ok-checked.checked.items) c.as_slice.ensures.value c.in_ok-checked.ensures.placed
