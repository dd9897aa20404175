use Rattle.std.proofs.Common.{◌≡◌, ℕ, ℤ, ◌+◌, ◌∷◌, [], codes, get_or, length, pos, ◌∙◌, ap, arith, subst, sym}
use Rattle.std.specs.Global.{Vec}
use Rattle.std.proofs.lemmas.List.Elements.{All-cons, All-nil, All-same}
use Rattle.col_table.specs.Columns.{rows_across, values_of}
use Rattle.col_table.specs.NamedRows.{IsHeading}
use Rattle.csv_tables.specs.Loading.{LoadsTable}
use Rattle.csv_tables.specs.Writing.{table_text}
use Rattle.load_gen.specs.Draws.{draw, each_below, state_after}
use Rattle.load_gen.specs.Tables.{table_u}
use Rattle.load_gen.proofs.DrawsLemmas.{each_below-zero, length-each_below, state_after-zero}
use Rattle.load_gen.proofs.LoadsLemmas.{fits-row, u-heading, table_u-loads}
use Rattle.load_gen.proofs.ScriptLemmas.{fits-draw}
use Rattle.load_gen.proofs.TablesLemmas.{made_of_columns, named_rows, pushed_more, drawn_of_u}
use Rattle.load_gen.proofs.tables.draw_u.Goals as goal

-- what the columns hold at a row
abbrev key : ℕ → ℤ
key row = pos row

abbrev weight : ℕ → ℕ → ℤ
weight state row = pos (draw state (row + 1) 100)

pub loop-row-init : goal.loop-row-init
loop-row-init c = record {
  keys = c.in_ok-keys.ensures.items ∙ sym (each_below-zero key);
  weights = c.in_ok-weights.ensures.items ∙ sym (each_below-zero (weight c.args.draws.now));
  draws = sym (state_after-zero c.args.draws.now);
}

pub loop-row-preserved : goal.loop-row-preserved
loop-row-preserved c =
    let state = c.args.draws.now in
    let row = c.loop-row.row in
    let drawn = drawn_of_u state row c.loop-row.draws _ _ c.loop-row.invariant.draws c.next_row_of_u.ensures.row c.next_row_of_u.ensures.draws in
    record {
      keys = pushed_more row key c.loop-row.keys.items _ _ c.in_ok-push.ensures.items (fits-row row c.args.rows (omega arith) c.requires)
          c.loop-row.invariant.keys (ap (λ values. get_or values 0 (pos 0)) drawn.0);
      weights = pushed_more row (weight state) c.loop-row.weights.items _ _ c.in_ok-push-2.ensures.items
          (fits-draw (state_after state (row + 1)) 100 (omega arith) (omega arith))
          c.loop-row.invariant.weights (ap (λ values. get_or values 1 (pos 0)) drawn.0);
      draws = drawn.1;
    }

pub table_of-requires-clause-heights : goal.table_of-requires-clause-heights
table_of-requires-clause-heights c =
    let Tall : Vec ℤ → Type 0 = λ column. length column.items ≡ c.args.rows in
    let state = c.args.draws.now in
    let row = c.loop-row.row in
    let all : row ≡ c.args.rows = omega arith in
    let keys = c.loop-row.keys in
    let weights = c.loop-row.weights in
    All-same Tall c.in_ok-columns.columns.items (keys ∷ weights ∷ []) c.in_ok-columns.ensures.items
    (All-cons Tall keys (weights ∷ []) (ap length c.loop-row.invariant.keys ∙ length-each_below row key ∙ all)
    (All-cons Tall weights [] (ap length c.loop-row.invariant.weights ∙ length-each_below row (weight state) ∙ all) (All-nil Tall)))

pub table_of-requires-clause-heading : goal.table_of-requires-clause-heading
table_of-requires-clause-heading c =
    let named : c.in_ok-names.names.items ≡ codes "k" ∷ codes "w" ∷ [] = c.in_ok-names.ensures in
    subst IsHeading (sym named) u-heading

-- the names and the columns are those of the table
is_made : (c : goal.After-table_of) → named_rows c.in_ok-names.names.items (rows_across (values_of c.in_ok-columns.columns.items) c.args.rows)
    ≡ table_u c.args.draws.now c.args.rows
is_made c =
    let state = c.args.draws.now in
    let rows = c.args.rows in
    let named : c.in_ok-names.names.items ≡ codes "k" ∷ codes "w" ∷ [] = c.in_ok-names.ensures in
    let all : c.loop-row.row ≡ rows = omega arith in
    made_of_columns c.in_ok-names.names.items (codes "k" ∷ codes "w" ∷ []) c.in_ok-columns.columns.items rows (key ∷ weight state ∷ []) named
    (ap values_of c.in_ok-columns.ensures.items
    ∙ ap (λ keys. keys ∷ c.loop-row.weights.items ∷ []) (c.loop-row.invariant.keys ∙ ap (λ n. each_below n key) all)
    ∙ ap (λ weights. each_below rows key ∷ weights ∷ []) (c.loop-row.invariant.weights ∙ ap (λ n. each_below n (weight state)) all))

pub returns-clause-table : goal.returns-clause-table
returns-clause-table c = c.table_of.ensures ∙ is_made c

pub returns-clause-loads : goal.returns-clause-loads
returns-clause-loads c =
    subst (λ table. LoadsTable (table_text table) table) (sym (c.table_of.ensures ∙ is_made c)) (table_u-loads c.args.draws.now c.args.rows c.requires)
