use Rattle.std.proofs.Common.{◌≡◌, ◌++◌, take, string_bytes}
use Rattle.report_text.specs.AnswersText.{totals_text}
use Rattle.report_text.proofs.answers.write_totals.Given as goal

abbrev pub invariant-loop-place : goal.invariant-loop-place
invariant-loop-place l = string_bytes l.text ≡ string_bytes l.initial.text ++ totals_text (take l.place l.values)
