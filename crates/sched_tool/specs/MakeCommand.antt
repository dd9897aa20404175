-- The command `make`.
use Rattle.std.specs.Prelude.{◌≡◌, ℕ, List}
use Rattle.load_gen.specs.Generated.{part_text}
use Rattle.load_gen.specs.Summaries.{summary_text}
use Rattle.load_gen.specs.declared.parts.Part.{Part}
use Rattle.report_text.specs.declared.replies.QueryReply.{QueryReply}
use Rattle.report_text.specs.declared.report.Report.{Report}
use Rattle.pool_run.specs.Runs.{ReportsBy}
use Rattle.sched_tool.specs.Behaviours.{Behaviour}
use Rattle.sched_tool.specs.Runs.{AnswerAll, LackAnswer}
use Rattle.sched_tool.specs.Summaries.{rounds_of_eight, summary_of}
use Rattle.sched_tool.specs.declared.program.refusal.Refusal.{Refusal}
use Rattle.sched_tool.specs.declared.program.refusal.Refusal.TheVariants.{OutOfMemory}

abbrev pub IsMemoryRefused : Refusal → Type 0
IsMemoryRefused OutOfMemory = Unit {0}
IsMemoryRefused refusal = ⊥

-- `make` writes the text of a part of a number's large input; it reads nothing
abbrev pub make_behaviour : ℕ → Part → Behaviour
make_behaviour number part = record {
  accepts = Unit {0};
  answers = λ text. text ≡ part_text number part;
  answers_in_part = λ text. ⊥;
  refuses = IsMemoryRefused;
  reads = λ file. ⊥;
}

-- the text of a summary of the run of a number's large input, whose replies are such
pub record IsSummaryText (times : ℕ → ℕ → ℕ → Type 0) (number : ℕ)
    (AreSuch : List QueryReply → Type 0) (text : List ℕ) : Type 0 where
  pub report : Report
  pub left : ReportsBy times (rounds_of_eight number) report
  pub replies : AreSuch report.replies
  pub bytes : text ≡ summary_text (summary_of number report)

-- `make` of a number alone runs its large input and writes the summary, also if queries ran out of
-- memory; it reads nothing
abbrev pub summary_behaviour : (ℕ → ℕ → ℕ → Type 0) → ℕ → Behaviour
summary_behaviour times number = record {
  accepts = Unit {0};
  answers = IsSummaryText times number AnswerAll;
  answers_in_part = IsSummaryText times number LackAnswer;
  refuses = IsMemoryRefused;
  reads = λ file. ⊥;
}
