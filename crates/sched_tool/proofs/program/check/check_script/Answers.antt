use Rattle.std.proofs.Common.{ap, inl, map, ◌∙◌}
use Rattle.plan_ast.specs.Checks.{query_of}
use Rattle.sched_tool.specs.CheckCommand.{check_text}
use Rattle.sched_tool.specs.Subjects.{subject_in}
use Rattle.sched_tool.proofs.program.check.check_script.Goals as goal

pub text_of-requires-clause-placed : goal.text_of-requires-clause-placed
text_of-requires-clause-placed g c = rw (c.as_slice.ensures.value, c.as_slice-2.ensures.value) c.in_ok-tables.ensures.placed

pub returns-clause-ok : goal.returns-clause-ok
returns-clause-ok g c = record {
  no_fault = c.in_ok-tables.ensures.no_fault;
  text = inl (
    c.whole.ensures.status,
    (
      subject_in c.in_ok-tables.field-0,
      c.in_ok-tables.ensures.accepted,
      ap (λ v. v.items) c.whole.ensures.text
          ∙ c.in_ok-text.ensures
          ∙ (λ i. check_text (record { tables = c.as_slice.ensures.value i; queries = map query_of (c.as_slice-2.ensures.value i) })),
    ),
  );
}
