use Rattle.std.proofs.Common.{◌∙◌, ap, arith, subst, sym}
use Rattle.csv_tables.specs.Loading.{LoadsTable}
use Rattle.csv_tables.specs.Writing.{table_text}
use Rattle.load_gen.specs.Tables.{row_of_t, table_t}
use Rattle.load_gen.proofs.LoadsLemmas.{table_t-loads}
use Rattle.load_gen.proofs.TablesLemmas.{drawn_of_t, text_made}
use Rattle.load_gen.proofs.texts.write_t.Goals as goal

pub loop-init : goal.loop-init
loop-init c = record {
  text = c.in_ok-reserve.ensures.items ∙ c.in_ok-text.ensures.text ∙ ap table_text c.in_ok-draw_t.ensures.table;
  draws = c.in_ok-draw_t.ensures.draws;
}

pub loop-preserved : goal.loop-preserved
loop-preserved c =
    let row = c.loop.counter in
    let drawn = drawn_of_t c.args.draws.now row c.loop.draws _ _ c.loop.invariant.draws c.next_row_of_t.ensures.row c.next_row_of_t.ensures.draws in
    record {
      text = text_made (table_t c.args.draws.now row).names row (row_of_t c.args.draws.now) c.loop.text.items _ c.next_row_of_t.result c.in_ok-push_line.ensures
          c.loop.invariant.text drawn.0;
      draws = drawn.1;
    }

pub returns : goal.returns
returns c =
    let text = c.loop.invariant.text ∙ ap (λ count. table_text (table_t c.args.draws.now count)) (omega arith) in
    record {
      text = text;
      loads = subst (λ text. LoadsTable text (table_t c.args.draws.now c.args.rows)) (sym text) (table_t-loads c.args.draws.now c.args.rows c.requires);
    }
