use Rattle.std.proofs.Common.{◌≡◌, ◌<◌, ◌∙◌, ◌++◌, [], All, FitsSigned, ap, arith, get_or, length, map, pos, rules, subst, sym, take}
use Rattle.std.specs.Fmt.{signed_decimal}
use Rattle.std.specs.Int.{w64}
use Rattle.std.proofs.lemmas.Int.{to_z-of_z}
use Rattle.std.proofs.lemmas.List.{take_all, take_more}
use Rattle.std.proofs.lemmas.List.Elements.{All-push}
use Rattle.csv.specs.Writing.{default_writer, next_sep, row_body}
use Rattle.csv_tables.proofs.Lines.{row_pushed, value_pushed}
use Rattle.csv_tables.proofs.writing.push_row.Goals as goal

pub loop-col-preserved : goal.loop-col-preserved
loop-col-preserved c =
    let values = get_or c.args.table.now.rows c.args.row [] in
    let col = c.loop-col.col in
    let inv = c.loop-col.invariant in
    let width : length values ≡ length c.args.table.now.names = c.cols-col-end.ensures.table.widths c.args.row [] c.requires in
    let within : col < length values = omega (arith, width, c.cols-col-end.ensures.count) in
    let value_fits : FitsSigned w64 c.value.result = search (rules, c.value.type_inv) in
    let fits = subst (FitsSigned w64) c.value.ensures value_fits in
    record {
      text = value_pushed c.args.text.now.items c.loop-col.text.items _ values col within fits inv.text (
          c.in_ok-push_value.ensures
          ∙ ap (λ value. (c.loop-col.text.items ++ next_sep default_writer col) ++ signed_decimal value)
          (to_z-of_z w64 c.value.result value_fits ∙ c.value.ensures));
      fits = subst (All (FitsSigned w64)) (sym (take_more values col (pos 0) within))
          (All-push (FitsSigned w64) (take col values) (get_or values col (pos 0)) inv.fits fits);
    }

pub returns : goal.returns
returns c =
    let values = get_or c.args.table.now.rows c.args.row [] in
    let col = c.loop-col.col in
    let table = c.cols-col-end.ensures.table in
    let width : length values ≡ length c.args.table.now.names = table.widths c.args.row [] c.requires in
    let all : take col values ≡ values = take_all col values (omega (arith, width, c.cols-col-end.ensures.count)) in
    let fits = subst (All (FitsSigned w64)) all c.loop-col.invariant.fits in
    let text = c.loop-col.invariant.text
    ∙ ap (λ values. c.args.text.now.items ++ row_body default_writer (map signed_decimal values)) all in
    (row_pushed _ _ _ values (omega (arith, width, table.heading.some)) fits text c.in_ok-push.ensures.items, fits)
