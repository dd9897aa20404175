use Rattle.std.proofs.Common.{◌∙◌, ap, arith, subst, sym}
use Rattle.csv_tables.specs.Loading.{LoadsTable}
use Rattle.csv_tables.specs.Writing.{table_text}
use Rattle.load_gen.specs.Tables.{row_of_u, table_u}
use Rattle.load_gen.proofs.LoadsLemmas.{table_u-loads}
use Rattle.load_gen.proofs.TablesLemmas.{drawn_of_u, text_made}
use Rattle.load_gen.proofs.texts.write_u.Goals as goal

pub loop-row-init : goal.loop-row-init
loop-row-init c = record {
  text = c.in_ok-reserve.ensures.items ∙ c.in_ok-text.ensures.text ∙ ap table_text c.in_ok-draw_u.ensures.table;
  draws = c.in_ok-draw_u.ensures.draws;
}

pub loop-row-preserved : goal.loop-row-preserved
loop-row-preserved c =
    let row = c.loop-row.row in
    let drawn = drawn_of_u c.args.draws.now row c.loop-row.draws _ _ c.loop-row.invariant.draws c.next_row_of_u.ensures.row c.next_row_of_u.ensures.draws in
    record {
      text = text_made (table_u c.args.draws.now row).names row (row_of_u c.args.draws.now)
          c.loop-row.text.items _ c.next_row_of_u.result c.in_ok-push_line.ensures
          c.loop-row.invariant.text drawn.0;
      draws = drawn.1;
    }

pub returns : goal.returns
returns c =
    let text = c.loop-row.invariant.text ∙ ap (λ count. table_text (table_u c.args.draws.now count)) (omega arith) in
    record {
      text = text;
      loads = subst (λ text. LoadsTable text (table_u c.args.draws.now c.args.rows)) (sym text) (table_u-loads c.args.draws.now c.args.rows c.requires);
    }
