use Rattle.std.proofs.Common.{ℤ, ◌++◌, string_bytes, get_or, pos, ap, ◌∙◌, rules, w64}
use Rattle.std.specs.Fmt.{signed_decimal}
use Rattle.std.proofs.lemmas.Int.{to_z-of_z}
use mir.Val.{SFits}
use Rattle.report_text.proofs.CommasLemmas.{text_more}
use Rattle.report_text.proofs.answers.write_values.Goals as goal

pub loop-place-preserved : goal.loop-place-preserved
loop-place-preserved c =
    let value : ℤ = get_or c.args.values.now c.loop-place.place (pos 0) in
    let fits : SFits w64 value = search rules in
    text_more signed_decimal c.args.values.now c.loop-place.place (pos 0) (string_bytes c.args.text.now) (string_bytes c.loop-place.text)
    (string_bytes c.write_comma.new.text) (string_bytes c.write_value.new.text)
    c.loop-place-test.true c.loop-place.invariant c.in_ok-write_comma.ensures
    (c.in_ok-write_value.ensures ∙ ap (λ z. string_bytes c.write_comma.new.text ++ signed_decimal z) (to_z-of_z w64 value fits))
