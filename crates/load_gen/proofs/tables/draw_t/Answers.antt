use Rattle.std.proofs.Common.{◌≡◌, ℕ, ℤ, ◌+◌, ◌*◌, ◌∷◌, [], codes, get_or, length, pos, ◌∙◌, ap, arith, subst, sym}
use Rattle.std.specs.Global.{Vec}
use Rattle.std.proofs.lemmas.List.Elements.{All-cons, All-nil, All-same}
use Rattle.col_table.specs.Columns.{rows_across, values_of}
use Rattle.col_table.specs.NamedRows.{IsHeading}
use Rattle.csv_tables.specs.Loading.{LoadsTable}
use Rattle.csv_tables.specs.Writing.{table_text}
use Rattle.load_gen.specs.Draws.{draw, each_below, signed_draw, state_after}
use Rattle.load_gen.specs.Tables.{table_t}
use Rattle.load_gen.proofs.DrawsLemmas.{each_below-zero, length-each_below, state_after-zero}
use Rattle.load_gen.proofs.LoadsLemmas.{t-heading, table_t-loads}
use Rattle.load_gen.proofs.ScriptLemmas.{fits-draw, fits-signed}
use Rattle.load_gen.proofs.TablesLemmas.{made_of_columns, named_rows, pushed_more, drawn_of_t}
use Rattle.load_gen.proofs.tables.draw_t.Goals as goal

-- what the columns hold at a row
abbrev key : ℕ → ℕ → ℤ
key state row = pos (draw state (3 * row + 1) 1000)

abbrev group : ℕ → ℕ → ℤ
group state row = pos (draw state (3 * row + 2) 16)

abbrev value : ℕ → ℕ → ℤ
value state row = signed_draw state (3 * row + 3)

pub loop-init : goal.loop-init
loop-init c = record {
  keys = c.in_ok-keys.ensures.items ∙ sym (each_below-zero (key c.args.draws.now));
  groups = c.in_ok-groups.ensures.items ∙ sym (each_below-zero (group c.args.draws.now));
  values = c.in_ok-values.ensures.items ∙ sym (each_below-zero (value c.args.draws.now));
  draws = sym (state_after-zero c.args.draws.now);
}

pub loop-preserved : goal.loop-preserved
loop-preserved c =
    let state = c.args.draws.now in
    let row = c.loop.counter in
    let drawn = drawn_of_t state row c.loop.draws _ _ c.loop.invariant.draws c.next_row_of_t.ensures.row c.next_row_of_t.ensures.draws in
    record {
      keys = pushed_more row (key state) c.loop.keys.items _ _ c.in_ok-push.ensures.items
          (fits-draw (state_after state (3 * row + 1)) 1000 (omega arith) (omega arith))
          c.loop.invariant.keys (ap (λ values. get_or values 0 (pos 0)) drawn.0);
      groups = pushed_more row (group state) c.loop.groups.items _ _ c.in_ok-push-2.ensures.items
          (fits-draw (state_after state (3 * row + 2)) 16 (omega arith) (omega arith)) c.loop.invariant.groups (ap (λ values. get_or values 1 (pos 0)) drawn.0);
      values = pushed_more row (value state) c.loop.values.items _ _ c.in_ok-push-3.ensures.items (fits-signed (state_after state (3 * row + 3)))
          c.loop.invariant.values (ap (λ values. get_or values 2 (pos 0)) drawn.0);
      draws = drawn.1;
    }

pub table_of-requires-clause-heights : goal.table_of-requires-clause-heights
table_of-requires-clause-heights c =
    let Tall : Vec ℤ → Type 0 = λ column. length column.items ≡ c.args.rows in
    let state = c.args.draws.now in
    let row = c.loop.counter in
    let all : row ≡ c.args.rows = omega arith in
    let keys = c.loop.keys in
    let groups = c.loop.groups in
    let values = c.loop.values in
    All-same Tall c.in_ok-columns.columns.items (keys ∷ groups ∷ values ∷ []) c.in_ok-columns.ensures.items
    (All-cons Tall keys (groups ∷ values ∷ []) (ap length c.loop.invariant.keys ∙ length-each_below row (key state) ∙ all)
    (All-cons Tall groups (values ∷ []) (ap length c.loop.invariant.groups ∙ length-each_below row (group state) ∙ all)
    (All-cons Tall values [] (ap length c.loop.invariant.values ∙ length-each_below row (value state) ∙ all) (All-nil Tall))))

pub table_of-requires-clause-heading : goal.table_of-requires-clause-heading
table_of-requires-clause-heading c =
    let named : c.in_ok-names.names.items ≡ codes "k" ∷ codes "g" ∷ codes "v" ∷ [] = c.in_ok-names.ensures in
    subst IsHeading (sym named) t-heading

-- the names and the columns are those of the table
is_made : (c : goal.After-table_of) → named_rows c.in_ok-names.names.items (rows_across (values_of c.in_ok-columns.columns.items) c.args.rows)
    ≡ table_t c.args.draws.now c.args.rows
is_made c =
    let state = c.args.draws.now in
    let rows = c.args.rows in
    let named : c.in_ok-names.names.items ≡ codes "k" ∷ codes "g" ∷ codes "v" ∷ [] = c.in_ok-names.ensures in
    let all : c.loop.counter ≡ rows = omega arith in
    made_of_columns c.in_ok-names.names.items (codes "k" ∷ codes "g" ∷ codes "v" ∷ []) c.in_ok-columns.columns.items rows
    (key state ∷ group state ∷ value state ∷ []) named
    (ap values_of c.in_ok-columns.ensures.items
    ∙ ap (λ keys. keys ∷ c.loop.groups.items ∷ c.loop.values.items ∷ []) (c.loop.invariant.keys ∙ ap (λ n. each_below n (key state)) all)
    ∙ ap (λ groups. each_below rows (key state) ∷ groups ∷ c.loop.values.items ∷ []) (c.loop.invariant.groups ∙ ap (λ n. each_below n (group state)) all)
    ∙ ap (λ values. each_below rows (key state) ∷ each_below rows (group state) ∷ values ∷ [])
    (c.loop.invariant.values ∙ ap (λ n. each_below n (value state)) all))

pub returns-clause-table : goal.returns-clause-table
returns-clause-table c = c.table_of.ensures ∙ is_made c

pub returns-clause-loads : goal.returns-clause-loads
returns-clause-loads c =
    subst (λ table. LoadsTable (table_text table) table) (sym (c.table_of.ensures ∙ is_made c)) (table_t-loads c.args.draws.now c.args.rows c.requires)
