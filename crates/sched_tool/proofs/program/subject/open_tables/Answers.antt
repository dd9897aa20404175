use Rattle.std.proofs.Common.{◌≡◌, ◌++◌, ◌∷◌, [], ap, append_assoc, arith, inr, subst, sym, ◌∙◌}
use Rattle.std.specs.Vec.Iter.{into_iter_items}
use Rattle.std.proofs.lemmas.List.{append-nil, nil_from_length}
use Rattle.std.proofs.lemmas.Result.{err_from_is_err_and}
use Rattle.sched_tool.specs.Outsides.{may_hold}
use Rattle.sched_tool.specs.ReadFaults.{FaultsAt}
use Rattle.sched_tool.specs.Refusals.{IsEntryRefused}
use Rattle.sched_tool.specs.Subjects.{HoldsTable, HoldTables}
use Rattle.sched_tool.proofs.SubjectsLemmas.{HoldTables-push, same_content}
use Rattle.sched_tool.proofs.program.subject.open_tables.Goals as goal

pub returns-in_err-open_table-clause-faults : goal.returns-in_err-open_table-clause-faults
returns-in_err-open_table-clause-faults g c =
    let p = err_from_is_err_and c.from_residual-in_err-open_table.result c.from_residual-in_err-open_table.ensures.1 in
    rw (p.1, p.2) (subst (λ before. FaultsAt c.in_err-open_table.field-0.0 before
    (g.F.Files.failed c.open_table.new.files)) c.loop-entry.invariant.no_fault c.in_err-open_table.ensures.faults)

pub returns-in_err-open_table-clause-kept : goal.returns-in_err-open_table-clause-kept
returns-in_err-open_table-clause-kept g c = λ any. c.open_table.ensures.kept any ∙ c.loop-entry.invariant.kept any

pub returns-in_err-open_table-clause-err : goal.returns-in_err-open_table-clause-err
returns-in_err-open_table-clause-err g c =
    let p = err_from_is_err_and c.from_residual-in_err-open_table.result c.from_residual-in_err-open_table.ensures.1 in
    let rest = into_iter_items c.next.new.self in
    let step : into_iter_items c.loop-entry.entry-iterator ≡ c.in-Some.entry ∷ rest = c.in-Some.ensures.steps.0 in
    rw (p.1, p.2) (inr (
      c.in-Some.entry,
      record {
        before = c.loop-entry.yielded;
        after = rest;
        is = c.loop-entry.invariant.split ∙ ap (λ v. c.loop-entry.yielded ++ v) step;
        loaded = c.loop-entry.tables.items;
        tables = c.loop-entry.invariant.tables;
      },
      subst (λ content. IsEntryRefused (may_hold content) c.in-Some.entry c.in_err-open_table.field-0.0)
          (same_content _ _ c.loop-entry.invariant.kept) c.in_err-open_table.ensures.err,
    ))

pub loop-entry-preserved : goal.loop-entry-preserved
loop-entry-preserved g c =
    let rest = into_iter_items c.next.new.self in
    let step : into_iter_items c.loop-entry.entry-iterator ≡ c.in-Some.entry ∷ rest = c.in-Some.ensures.steps.0 in
    let items : c.push.new.self.items ≡ c.loop-entry.tables.items ++ c.in_ok-open_table.field-0 ∷ [] = c.in_ok-push.ensures.items in
    let one = subst (λ content. HoldsTable (may_hold content) c.in-Some.entry c.in_ok-open_table.field-0)
    (same_content _ _ c.loop-entry.invariant.kept) c.in_ok-open_table.ensures.ok in
    record {
      kept = λ any. c.open_table.ensures.kept any ∙ c.loop-entry.invariant.kept any;
      no_fault = c.in_ok-open_table.ensures.no_fault ∙ c.loop-entry.invariant.no_fault;
      split = c.loop-entry.invariant.split ∙ ap (λ v. c.loop-entry.yielded ++ v) step ∙ sym (append_assoc c.loop-entry.yielded (c.in-Some.entry ∷ []) rest);
      tables = rw items
          (HoldTables-push _ c.loop-entry.yielded c.in-Some.entry c.loop-entry.tables.items c.in_ok-open_table.field-0 c.loop-entry.invariant.tables one);
    }

pub returns-clause-ok : goal.returns-clause-ok
returns-clause-ok g c =
    let left = into_iter_items c.loop-entry.entry-iterator in
    let none : left ≡ [] = nil_from_length left (omega (arith, c.in-None.ensures.steps.0, c.loop-entry.entry-iterator.rest.ok.0)) in
    let all : c.args.entries ≡ c.loop-entry.yielded = c.loop-entry.invariant.split ∙ ap (λ v. c.loop-entry.yielded ++ v) none
    ∙ append-nil c.loop-entry.yielded in
    subst (λ entries. HoldTables (may_hold (g.F.Files.content c.args.files.now)) entries c.loop-entry.tables.items) (sym all) c.loop-entry.invariant.tables
