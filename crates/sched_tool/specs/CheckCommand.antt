-- The command `check`.
use Rattle.std.specs.Prelude.{◌≡◌, ℕ, List, ◌++◌, map, codes}
use Rattle.std.specs.List.{enumerate_from}
use Rattle.plan_ast.specs.Answer.{answer_of}
use Rattle.plan_ast.specs.Subject.{Subject}
use Rattle.report_text.specs.AnswersText.{answers_bytes, line}
use Rattle.report_text.specs.declared.replies.QueryReply.{QueryReply}
use Rattle.report_text.specs.declared.replies.Reply.TheVariants.{Answer}
use Rattle.sched_tool.specs.Behaviours.{Behaviour}
use Rattle.sched_tool.specs.Outsides.{Contents}
use Rattle.sched_tool.specs.Refusals.{IsCheckRefused}
use Rattle.sched_tool.specs.Subjects.{IsAccepted, IsRead}

-- the one-thread answer to each query, numbered from 0
abbrev pub replies_of : Subject → List QueryReply
replies_of subject =
    map (λ q. record { query = q.0; reply = Answer (answer_of subject.tables q.1) })
    (enumerate_from 0 subject.queries)

-- what `check` writes for a subject
abbrev pub check_text : Subject → List ℕ
check_text subject = answers_bytes (replies_of subject) ++ line (codes "end")

-- `check` of the script in a file answers each query of an accepted subject; it uses no time
abbrev pub check_behaviour : Contents → List ℕ → Behaviour
check_behaviour holds file = record {
  accepts = (subject : Subject) × IsAccepted holds file subject;
  answers = λ text.
      (subject : Subject) × IsAccepted holds file subject × (text ≡ check_text subject);
  answers_in_part = λ text. ⊥;
  refuses = IsCheckRefused holds file;
  reads = IsRead holds file;
}
