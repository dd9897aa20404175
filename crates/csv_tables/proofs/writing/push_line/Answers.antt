use Rattle.std.proofs.Common.{◌≡◌, ◌<◌, ◌∙◌, ◌++◌, All, FitsSigned, ap, arith, get_or, length, map, pos, rules, subst, sym, take}
use Rattle.std.specs.Fmt.{signed_decimal}
use Rattle.std.specs.Int.{w64}
use Rattle.std.proofs.lemmas.Int.{to_z-of_z}
use Rattle.std.proofs.lemmas.List.{take_all, take_more}
use Rattle.std.proofs.lemmas.List.Elements.{All-push}
use Rattle.csv.specs.Writing.{default_writer, next_sep, row_body}
use Rattle.csv_tables.proofs.Lines.{row_pushed, value_pushed}
use Rattle.csv_tables.proofs.writing.push_line.Goals as goal

pub loop-place-preserved : goal.loop-place-preserved
loop-place-preserved c =
    let values = c.args.values.now in
    let place = c.loop-place.place in
    let within : place < length values = omega (arith, c.loop-place-test.true) in
    let fits : FitsSigned w64 (get_or values place (pos 0)) = search rules in
    record {
      text = value_pushed c.args.text.now.items c.loop-place.text.items _ values place within fits c.loop-place.invariant.text (
          c.in_ok-push_value.ensures
          ∙ ap (λ value. (c.loop-place.text.items ++ next_sep default_writer place) ++ signed_decimal value) (to_z-of_z w64 _ fits));
      fits = subst (All (FitsSigned w64)) (sym (take_more values place (pos 0) within))
          (All-push (FitsSigned w64) (take place values) (get_or values place (pos 0)) c.loop-place.invariant.fits fits);
    }

pub returns : goal.returns
returns c =
    let values = c.args.values.now in
    let all : take c.loop-place.place values ≡ values = take_all c.loop-place.place values (omega arith) in
    let fits = subst (All (FitsSigned w64)) all c.loop-place.invariant.fits in
    let text = c.loop-place.invariant.text
    ∙ ap (λ values. c.args.text.now.items ++ row_body default_writer (map signed_decimal values)) all in
    row_pushed _ _ _ values c.requires fits text c.in_ok-push.ensures.items
