use Rattle.std.proofs.Common.{◌≡◌, ap, inl, inr, refl, subst}
use Rattle.std.specs.Arc.{arc_value}
use Rattle.bench_cell.specs.Plans.{subject_of_plan}
use Rattle.pool_run.specs.Runs.{RanBy}
use Rattle.sched_tool.specs.Outsides.{possible}
use Rattle.sched_tool.specs.Requests.{course_of, request_of}
use Rattle.sched_tool.specs.RunCommands.{IsRunOf}
use Rattle.sched_tool.specs.Runs.{requested}
use Rattle.sched_tool.specs.Subjects.{subject_in}
use Rattle.sched_tool.proofs.program.threads.report_script.Goals as goal

pub returns-clause-ok : goal.returns-clause-ok
returns-clause-ok g c =
    let times = g.M.Meter.may_take in
    let request = request_of c.args.request.now in
    let left = c.in_ok-left.left in
    let subject = subject_in c.in_ok-opened.opened in
    let same : subject_of_plan (arc_value c.in_ok-plan.plan) ≡ subject = c.in_ok-plan.ensures in
    let run : IsRunOf (possible (g.F.Files.content c.args.files.now) times) request left = record {
      by_threads = ap course_of c.requires.by_threads;
      subject = subject;
      accepted = c.in_ok-opened.ensures.accepted;
      ran = subst (λ s. RanBy times (requested request s) left.report left.joined.history left.times.items) same c.in_ok-left.ensures.ran;
    } in
    let bytes = c.in_ok-output.ensures.text in
    record {
      no_fault = c.in_ok-opened.ensures.no_fault;
      text = elim c.in_ok-output.ensures.status [
        | inl whole ↦ inl (whole.0, record { left = left; is = refl; run = run; replies = whole.1; bytes = bytes })
        | inr part ↦ inr (part.0, record { left = left; is = refl; run = run; replies = part.1; bytes = bytes })
      ];
    }
