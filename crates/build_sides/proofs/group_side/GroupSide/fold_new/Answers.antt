use Rattle.std.proofs.Common.{pos, ◌∷◌, [], map, slice_index_or}
use Rattle.plan_ast.specs.Answer.{aggregate}
use Rattle.build_sides.specs.Columns.{totals_of}
use Rattle.build_sides.specs.FoldedRows.{key_by, values_by}
use Rattle.build_sides.specs.GroupTotals.{no_totals}
use Rattle.build_sides.proofs.Folding.{groups_more, length-rows_with}
use Rattle.build_sides.proofs.Groups.{folds_row}
use Rattle.build_sides.proofs.Places.{funcs_stay, puts_values}
use Rattle.build_sides.proofs.group_side.GroupSide.fold_new.Goals as goal

pub invariant_of-self-2 : goal.invariant_of-self-2
invariant_of-self-2 c =
    let old = map totals_of c.self.inside.columns.items in
    let key = c.table_key-key.result in
    let n = c.in_ok-number.number in
    let values = values_by c.args.table.now c.args.aggs.now c.args.row in
    record {
      groups = groups_more (record { keys = c.self.inside.keys; columns = old })
          (record { keys = c.new_number.new.keys; columns = map totals_of c.fold_table_row.new.columns.items })
          key n (λ a. aggregate (slice_index_or old a no_totals).func (slice_index_or values a (pos 0) ∷ [])) c.self.invariant.groups
          (puts_values c.self.inside.keys c.new_number.new.keys key n old c.new_number.new.columns.items c.fold_table_row.new.columns.items
          values c.in_ok-number.ensures.numbers c.in_ok-number.ensures.same c.fold_table_row.ensures.count c.fold_table_row.ensures.each);
      parts = c.in_ok-number.ensures.parts;
    }

pub returns-clause-funcs : goal.returns-clause-funcs
returns-clause-funcs c =
    let old = map totals_of c.self.inside.columns.items in
    let key = c.table_key-key.result in
    let n = c.in_ok-number.number in
    let values = values_by c.args.table.now c.args.aggs.now c.args.row in
    rw (← c.self.view_is) (
    funcs_stay (record { keys = c.self.inside.keys; columns = old })
    (record { keys = c.new_number.new.keys; columns = map totals_of c.fold_table_row.new.columns.items })
    key n (λ a. aggregate (slice_index_or old a no_totals).func (slice_index_or values a (pos 0) ∷ []))
    (puts_values c.self.inside.keys c.new_number.new.keys key n old c.new_number.new.columns.items c.fold_table_row.new.columns.items values
    c.in_ok-number.ensures.numbers c.in_ok-number.ensures.same c.fold_table_row.ensures.count c.fold_table_row.ensures.each))

pub returns-clause-folds : goal.returns-clause-folds
returns-clause-folds c =
    let old = map totals_of c.self.inside.columns.items in
    let key = key_by c.args.table.now c.args.by.now c.args.row in
    let n = c.in_ok-number.number in
    let values = values_by c.args.table.now c.args.aggs.now c.args.row in
    rw (← c.self.view_is) (λ rows few folds.
    folds_row (record { keys = c.self.inside.keys; columns = old })
    (record { keys = c.new_number.new.keys; columns = map totals_of c.fold_table_row.new.columns.items })
    key n values rows c.self.invariant.groups
    (puts_values c.self.inside.keys c.new_number.new.keys key n old c.new_number.new.columns.items c.fold_table_row.new.columns.items values
    (rw c.table_key-key.ensures at c.in_ok-number.ensures.numbers) c.in_ok-number.ensures.same c.fold_table_row.ensures.count c.fold_table_row.ensures.each)
    c.fold_table_row.ensures.fits few (length-rows_with key rows) folds)
