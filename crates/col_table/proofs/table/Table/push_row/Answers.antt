use Rattle.std.proofs.Common.{◌∙◌, ap, arith, length, refl, sym}
use Rattle.std.specs.Vec.{with_items}
use Rattle.std.proofs.lemmas.List.{with_items_is}
use Rattle.col_table.specs.Columns.{values_of}
use Rattle.col_table.specs.NamedRows.{with_row}
use Rattle.col_table.proofs.Stored.{IsStored-pushed, length-rows_stored, table_stored-pushed}
use Rattle.col_table.proofs.table.Table.push_row.Goals as goal

pub returns-then-self-eq-MAX_ROWS-clause-full : goal.returns-then-self-eq-MAX_ROWS-clause-full
returns-then-self-eq-MAX_ROWS-clause-full c = (
  λ _. ap (λ table. length table.rows) (sym c.self.view_is) ∙ length-rows_stored c.self.inside ∙
      c.if-self-eq-MAX_ROWS.true,
  λ _. refl,
)

pub returns-in_default-clause-full : goal.returns-in_default-clause-full
returns-in_default-clause-full c = (
  λ e. absurd (cc),
  λ full. absurd (c.if-self-eq-MAX_ROWS.false
      (sym (ap (λ table. length table.rows) (sym c.self.view_is) ∙ length-rows_stored c.self.inside) ∙ full)),
)

pub invariant_of-self-2 : goal.invariant_of-self-2
invariant_of-self-2 c =
    let ends = with_items_is c.self.inside.columns c.push_each.new.columns (omega arith) in
    let same = c.make_room.ensures.same ∙ ap values_of c.as_mut_slice-columns.ensures.value in
    let e = rw (same, ← ends) at c.push_each.ensures in
    IsStored-pushed c.self.inside _ c.args.row.now c.self.invariant e c.if-self-eq-MAX_ROWS.false

pub returns-clause-ok : goal.returns-clause-ok
returns-clause-ok c =
    let ends = with_items_is c.self.inside.columns c.push_each.new.columns (omega arith) in
    let same = c.make_room.ensures.same ∙ ap values_of c.as_mut_slice-columns.ensures.value in
    let e = rw (same, ← ends) at c.push_each.ensures in
    table_stored-pushed c.self.inside (with_items c.self.inside.columns c.push_each.new.columns) c.args.row.now c.self.invariant e
    (omega (arith, ap (λ table. length table.names) c.self.view_is))
    ∙ ap (λ table. with_row table c.args.row.now) c.self.view_is

pub returns-clause-full : goal.returns-clause-full
returns-clause-full c = (
  λ e. absurd (cc),
  λ full. absurd (c.if-self-eq-MAX_ROWS.false
      (sym (ap (λ table. length table.rows) (sym c.self.view_is) ∙ length-rows_stored c.self.inside) ∙ full)),
)
