-- At most one text of a command, if the contents of its files and the time of each range are known.
use Rattle.std.proofs.Common.{◌≡◌, ℕ, List, [], Option, ap, subst, sym, ◌∙◌}
use Rattle.std.proofs.lemmas.Option.{get_or_from_slice_get, slice_get_within}
use Rattle.load_gen.specs.Summaries.{summary_text}
use Rattle.report_text.specs.ReportText.{report_bytes}
use Rattle.report_text.specs.declared.replies.QueryReply.{QueryReply}
use Rattle.report_text.specs.declared.report.Report.{Report}
use Rattle.slot_history.specs.declared.shape.Shape.{Shape}
use Rattle.turn_model.specs.Workloads.{Workload}
use Rattle.run_laws.specs.Agreeing.{Input, IsAnswered, IsInput, NoneRanOut, takes}
use Rattle.run_laws.proofs.OneText.{one-text-by-moves, one-text-by-turns}
use Rattle.pool_run.specs.Runs.{Asked, Course, moves, order_of, ReportsBy, threads, turns}
use Rattle.sched_tool.specs.CheckCommand.{check_behaviour, check_text}
use Rattle.sched_tool.specs.MakeCommand.{IsSummaryText}
use Rattle.sched_tool.specs.Outsides.{known, surely_holds}
use Rattle.sched_tool.specs.RunCommands.{IsReportText}
use Rattle.sched_tool.specs.Runs.{AnswerAll, IsAnswer, requested}
use Rattle.sched_tool.specs.Summaries.{rounds_of_eight, summary_of}
use Rattle.sched_tool.specs.Verdicts.{OneText}
use Rattle.sched_tool.specs.Words.{Request}
use Rattle.sched_tool.proofs.BehaviourLemmas.{by_command, IsOnOneThread}
use Rattle.sched_tool.proofs.OutsideLemmas.{SameFiles-known}
use Rattle.sched_tool.proofs.UniqueLemmas.{subject_is}

-- if each query is answered, none ran out of memory
none_ran_out : (report : Report) → AnswerAll report.replies → NoneRanOut report
none_ran_out report all q out =
    let within = slice_get_within report.replies out.0 out.1 out.2 in
    let at = get_or_from_slice_get report.replies out.0 out.1 out.1 out.2 in
    subst IsAnswer (ap (λ (told : QueryReply). told.reply) at ∙ out.3.1) (all out.0 out.1 within)

module _ (time : ℕ → ℕ → ℕ) (shape : Shape) (load : Workload) where
  abbrev by_course : Course → Asked
  by_course course = record { shape = shape; load = load; course = course }

  abbrev input : Course → Input
  input course = record { shape = shape; load = load; order = order_of course; time = time }

  is_input : (course : Course) (report : Report) → ReportsBy (takes time) (by_course course) report → IsInput (input course)
  is_input course report x = record { work = x.work; of_workers = x.of_workers }

  is_answered : (course : Course) (report : Report) (x : ReportsBy (takes time) (by_course course) report) → AnswerAll report.replies
      → IsAnswered (input course) x.run report
  is_answered course report x all = record { complete = x.complete; told = x.told; none = none_ran_out report all }

  -- two reports of a run on one thread are one, if each query is answered in both
  one_report : (course : Course) → IsOnOneThread course → (one other : Report) → ReportsBy (takes time) (by_course course) one
      → ReportsBy (takes time) (by_course course) other → AnswerAll one.replies → AnswerAll other.replies → one ≡ other
  one_report (turns order) on_one one other x y all others =
      let by = turns order in
      (one-text-by-turns (input by) x.run y.run one other (is_input by one x) (is_answered by one x all) (is_answered by other y others) x.by_course
      y.by_course).1
  one_report (moves order) on_one one other x y all others =
      let by = moves order in
      (one-text-by-moves (input by) x.run y.run one other (is_input by one x) (is_answered by one x all) (is_answered by other y others) x.by_course
      y.by_course).1
  one_report threads on_one one other x y all others = absurd on_one

-- an accepted script has one answer
one_answer : (content : List ℕ → Option (List ℕ)) (file a b : List ℕ) → (check_behaviour (surely_holds content) file).answers a
    → (check_behaviour (surely_holds content) file).answers b → a ≡ b
one_answer content file a b x y =
    x.2
    ∙ ap check_text
    (subject_is (surely_holds content) (surely_holds content) (SameFiles-known content) file x.0 y.0 x.1.held y.1.held)
    ∙ sym y.2

module _ (time : ℕ → ℕ → ℕ) (content : List ℕ → Option (List ℕ)) where
  one_run : (request : Request) → IsOnOneThread request.course → (a b : List ℕ) → IsReportText (known content (takes time)) request AnswerAll a
      → IsReportText (known content (takes time)) request AnswerAll b → a ≡ b
  one_run request on_one a b x y =
      let same = subject_is (surely_holds content) (surely_holds content) (SameFiles-known content) request.script x.subject y.subject x.accepted.held
      y.accepted.held in
      let left = subst (λ subject. ReportsBy (takes time) (requested request subject) y.report) (sym same) y.left in
      let asked : Asked = requested request x.subject in
      x.bytes
      ∙ ap report_bytes (one_report time asked.shape asked.load request.course on_one x.report y.report x.left left x.replies y.replies)
      ∙ sym y.bytes

  one_summary : (number : ℕ) (a b : List ℕ) → IsSummaryText (takes time) number AnswerAll a → IsSummaryText (takes time) number AnswerAll b → a ≡ b
  one_summary number a b x y =
      let asked : Asked = rounds_of_eight number in
      x.bytes
      ∙ ap (λ report. summary_text (summary_of number report))
      (one_report time asked.shape asked.load (turns []) tt x.report y.report x.left y.left x.replies y.replies)
      ∙ sym y.bytes

pub one_text : OneText
one_text time content meaning a b =
    let outside = known content (takes time) in
    by_command outside outside (λ does _. (a b : List ℕ) → does.answers a → does.answers b → a ≡ b) (λ a b x y. absurd x)
    (one_answer content) (one_run time content) (one_summary time content) (λ number part a b x y. x ∙ sym y) meaning a b
