use Rattle.std.proofs.Common.{string_bytes}
use Rattle.plan_ast.specs.declared.answers.AggValue.TheVariants.{Count}
use Rattle.report_text.specs.AnswersText.{total_text}
use Rattle.report_text.proofs.CommasLemmas.{text_more}
use Rattle.report_text.proofs.answers.write_totals.Goals as goal

pub loop-place-preserved : goal.loop-place-preserved
loop-place-preserved c =
    text_more total_text c.args.values.now c.loop-place.place (Count 0) (string_bytes c.args.text.now) (string_bytes c.loop-place.text)
    (string_bytes c.write_comma.new.text) (string_bytes c.write_total.new.text)
    c.loop-place-test.true c.loop-place.invariant c.in_ok-write_comma.ensures c.in_ok-write_total.ensures
