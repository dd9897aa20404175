use Rattle.std.proofs.Common.{◌≡◌, [], ap, inl, inr, refl, subst, ◌∙◌}
use Rattle.std.specs.Arc.{arc_value}
use Rattle.load_gen.specs.Summaries.{summary_text}
use Rattle.bench_cell.specs.Plans.{subject_of_plan}
use Rattle.pool_run.specs.Runs.{ReportsBy, turns}
use Rattle.sched_tool.specs.Runs.{AnswerAll, asked_over, LackAnswer}
use Rattle.sched_tool.specs.Summaries.{rounds_of_eight, subject_of, summary_of}
use Rattle.sched_tool.proofs.program.summary.make_summary.Goals as goal

pub returns-clause-ok : goal.returns-clause-ok
returns-clause-ok g c = λ failed.
    let times = g.M.Meter.may_take in
    let number = c.args.number in
    let report = c.in_ok-report.report in
    let shared : subject_of_plan (arc_value c.in_ok-try_clone.field-0) ≡ subject_of number =
    ap (λ plan. subject_of_plan plan) c.in_ok-try_clone.ensures ∙ c.in_ok-plan.ensures.subject in
    let left : ReportsBy times (rounds_of_eight number) report =
    subst (λ subject. ReportsBy times (asked_over subject 8 128 (turns [])) report) shared c.in_ok-report.ensures in
    let bytes : c.of_run.result.text.items ≡ summary_text (summary_of number report) =
    ap (λ v. v.items) (c.of_run.ensures.text ∙ c.into_bytes.ensures.value) ∙ c.in_ok-text.ensures.ok ∙ ap summary_text c.summary_of-summary.ensures in
    record {
      no_fault = refl;
      text = elim c.of_run.ensures.status [
        | inl whole ↦ inl (whole.0, record { report = report; left = left; replies = subst AnswerAll c.as_slice.ensures whole.1; bytes = bytes })
        | inr part ↦ inr (part.0, record { report = report; left = left; replies = subst LackAnswer c.as_slice.ensures part.1; bytes = bytes })
      ];
    }
