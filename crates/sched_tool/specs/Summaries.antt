-- The run of a large input, and its summary.
use Rattle.std.specs.Prelude.{ℕ, Bool, true, false, [], length, count_by, sum_by}
use Rattle.load_gen.specs.Generated.{generated}
use Rattle.load_gen.specs.declared.summary.Summary.{Summary}
use Rattle.plan_ast.specs.Stages.{stages_of}
use Rattle.plan_ast.specs.Subject.{Subject}
use Rattle.report_text.specs.AnswersText.{answer_lines}
use Rattle.report_text.specs.declared.replies.Reply.{Reply}
use Rattle.report_text.specs.declared.replies.Reply.TheVariants.{Answer, Memory}
use Rattle.report_text.specs.declared.report.Report.{Report}
use Rattle.pool_run.specs.Runs.{Asked, turns}
use Rattle.sched_tool.specs.Runs.{asked_over}

-- the large input of a number, as a subject
abbrev pub subject_of : ℕ → Subject
subject_of number = record {
  tables = (generated number).tables;
  queries = (generated number).script.queries;
}

-- a large input is run by 8 workers over 128 slots, in rounds
abbrev pub rounds_of_eight : ℕ → Asked
rounds_of_eight number = asked_over (subject_of number) 8 128 (turns [])

abbrev pub is_answer : Reply → Bool
is_answer (Answer answer) = true
is_answer Memory = false

-- how many lines the answer has; 0 if the query ran out of memory
abbrev pub lines_in : Reply → ℕ
lines_in (Answer answer) = length (answer_lines answer)
lines_in Memory = 0

-- the summary of a run with this report
abbrev pub summary_of : ℕ → Report → Summary
summary_of number report = record {
  number = number;
  rows = sum_by (λ made. length made.table.rows) (subject_of number).tables;
  queries = length (subject_of number).queries;
  sets = sum_by stages_of (subject_of number).queries;
  answered = count_by (λ told. is_answer told.reply) report.replies;
  lines = sum_by (λ told. lines_in told.reply) report.replies;
  ranges = sum_by (λ kept. length kept.claims) report.records;
}
