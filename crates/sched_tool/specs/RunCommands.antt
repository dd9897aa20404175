-- The commands `turns`, `steps` and `run`: the report of a run of a script.
use Rattle.std.specs.Prelude.{◌≡◌, ℕ, List, Option, Some, IfSome}
use Rattle.plan_ast.specs.Subject.{Subject}
use Rattle.report_text.specs.ReportText.{report_bytes}
use Rattle.report_text.specs.declared.replies.QueryReply.{QueryReply}
use Rattle.report_text.specs.declared.report.Report.{Report}
use Rattle.pool_run.specs.Runs.{RanBy, ReportsBy, threads}
use Rattle.pool_run.specs.declared.threads.ThreadRan.{ThreadRan}
use Rattle.sched_tool.specs.Behaviours.{Behaviour}
use Rattle.sched_tool.specs.Outsides.{Contents, Outside}
use Rattle.sched_tool.specs.Refusals.{IsCheckRefused}
use Rattle.sched_tool.specs.Runs.{AnswerAll, LackAnswer, requested}
use Rattle.sched_tool.specs.Subjects.{IsAccepted, IsRead}
use Rattle.sched_tool.specs.Words.{Meaning, Request, run}

-- a run of an accepted script answers it with such a text, also if queries ran out of memory; it
-- reads and refuses as `check` does
abbrev pub run_behaviour : Contents → List ℕ → ((List QueryReply → Type 0) → List ℕ → Type 0)
    → Behaviour
run_behaviour holds file IsText = record {
  accepts = (subject : Subject) × IsAccepted holds file subject;
  answers = IsText AnswerAll;
  answers_in_part = IsText LackAnswer;
  refuses = IsCheckRefused holds file;
  reads = IsRead holds file;
}

-- ---- `turns` and `steps`

-- the text of a report of a requested run of the accepted script, whose replies are such
pub record IsReportText (outside : Outside) (request : Request)
    (AreSuch : List QueryReply → Type 0) (text : List ℕ) : Type 0 where
  pub subject : Subject
  pub accepted : IsAccepted outside.holds request.script subject
  pub report : Report
  pub left : ReportsBy outside.gives (requested request subject) report
  pub replies : AreSuch report.replies
  pub bytes : text ≡ report_bytes report

-- `turns` or `steps` writes the report of a run by its order
abbrev pub order_behaviour : Outside → Request → Behaviour
order_behaviour outside request =
    run_behaviour outside.holds request.script (IsReportText outside request)

-- ---- `run`

-- this is a requested run of the accepted script, by threads
pub record IsRunOf (outside : Outside) (request : Request) (left : ThreadRan) : Type 0 where
  pub by_threads : request.course ≡ threads
  pub subject : Subject
  pub accepted : IsAccepted outside.holds request.script subject
  pub ran : RanBy outside.gives (requested request subject) left.report left.joined.history
      left.times.items

-- the text of the report in `ran`, which is that of a requested run, and whose replies are such
pub record IsRunText (outside : Outside) (request : Request) (ran : Option ThreadRan)
    (AreSuch : List QueryReply → Type 0) (text : List ℕ) : Type 0 where
  pub left : ThreadRan
  pub is : ran ≡ Some left
  pub run : IsRunOf outside request left
  pub replies : AreSuch left.report.replies
  pub bytes : text ≡ report_bytes left.report

-- `run` writes the report in `ran`
abbrev pub threads_behaviour : Outside → Option ThreadRan → Request → Behaviour
threads_behaviour outside ran request =
    run_behaviour outside.holds request.script (IsRunText outside request ran)

-- whatever is in `ran` is a run by threads that the words ask for
abbrev pub IsRunAsked : Outside → Option Meaning → Option ThreadRan → Type 0
IsRunAsked outside meaning ran = IfSome ran
    (λ left. (request : Request) × (meaning ≡ Some (run request)) × IsRunOf outside request left)
