use Rattle.std.proofs.Common.{◌≡◌, ◌<◌, ◌∙◌, ◌++◌, [], All, FitsSigned, ap, arith, get_or, length, subst, sym, take}
use Rattle.std.specs.Int.{w64}
use Rattle.std.proofs.lemmas.List.{take_all, take_more}
use Rattle.std.proofs.lemmas.List.Elements.{All-push}
use Rattle.csv_tables.specs.Loading.{LoadsTable}
use Rattle.csv_tables.specs.Writing.{line_text, table_text}
use Rattle.csv_tables.proofs.Lines.{text_more}
use Rattle.csv_tables.proofs.Texts.{text_loads}
use Rattle.csv_tables.proofs.writing.write_table.Goals as goal

pub loop-row-preserved : goal.loop-row-preserved
loop-row-preserved c =
    let names = c.args.table.now.names in
    let rows = c.args.table.now.rows in
    let row = c.loop-row.row in
    let within : row < length rows = omega (arith, c.rows-row-end.ensures.count) in
    let values = get_or rows row [] in
    let pushed = c.in_ok-push_row.ensures in
    let more = take_more rows row [] within in
    record {
      text =
          pushed.0
          ∙ ap (λ text. text ++ line_text values) c.loop-row.invariant.text
          ∙ sym (text_more names (take row rows) values)
          ∙ ap (λ rows. table_text (record { names = names; rows = rows })) (sym more);
      fits = subst (All (All (FitsSigned w64))) (sym more) (All-push (All (FitsSigned w64)) (take row rows) values c.loop-row.invariant.fits pushed.1);
    }

pub returns : goal.returns
returns c =
    let table = c.args.table.now in
    let all : take c.loop-row.row table.rows ≡ table.rows = take_all c.loop-row.row table.rows (omega (arith, c.rows-row-end.ensures.count)) in
    let fits = subst (All (All (FitsSigned w64))) all c.loop-row.invariant.fits in
    let text : c.loop-row.text.items ≡ table_text table =
    c.loop-row.invariant.text ∙ ap (λ rows. table_text (record { names = table.names; rows = rows })) all in
    let legal = c.in_ok-text.ensures.1 in
    let shape = c.rows-row-end.ensures.table in record {
      text = text;
      loads = λ none. subst (λ text. LoadsTable text table) (sym text) (text_loads table.names table.rows shape legal fits none);
    }
