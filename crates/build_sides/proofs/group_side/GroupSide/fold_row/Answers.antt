use Rattle.std.proofs.Common.{pos, ◌∷◌, [], length, map, slice_index_or}
use Rattle.plan_ast.specs.Answer.{aggregate}
use Rattle.build_sides.specs.Columns.{totals_of}
use Rattle.build_sides.specs.FoldedRows.{group_key_of}
use Rattle.build_sides.specs.GroupTotals.{no_totals}
use Rattle.build_sides.proofs.Folding.{groups_more, length-rows_with}
use Rattle.build_sides.proofs.Groups.{folds_row}
use Rattle.build_sides.proofs.Places.{all_same, funcs_stay, puts_values}
use Rattle.build_sides.proofs.group_side.GroupSide.fold_row.Goals as goal

pub number_with_room-requires : goal.number_with_room-requires
number_with_room-requires c = record {
  parts = c.self.invariant.parts;
  all = all_same c.self.inside.columns.items (length c.self.inside.keys) c.self.invariant.groups.same;
}

pub invariant_of-self-2 : goal.invariant_of-self-2
invariant_of-self-2 c =
    let old = map totals_of c.self.inside.columns.items in
    let key = c.group_key-key.result in
    let n = c.in_ok-number.number in
    record {
      groups = groups_more (record { keys = c.self.inside.keys; columns = old })
          (record { keys = c.number_with_room.new.keys; columns = map totals_of c.fold_values.new.columns.items })
          key n (λ a. aggregate (slice_index_or old a no_totals).func (slice_index_or c.args.values.now a (pos 0) ∷ [])) c.self.invariant.groups
          (puts_values c.self.inside.keys c.number_with_room.new.keys key n old c.number_with_room.new.columns.items c.fold_values.new.columns.items
          c.args.values.now c.in_ok-number.ensures.numbers c.in_ok-number.ensures.same c.fold_values.ensures.count c.fold_values.ensures.each);
      parts = c.in_ok-number.ensures.parts;
    }

pub returns-clause-funcs : goal.returns-clause-funcs
returns-clause-funcs c =
    let old = map totals_of c.self.inside.columns.items in
    let key = c.group_key-key.result in
    let n = c.in_ok-number.number in
    rw (← c.self.view_is) (
    funcs_stay (record { keys = c.self.inside.keys; columns = old })
    (record { keys = c.number_with_room.new.keys; columns = map totals_of c.fold_values.new.columns.items })
    key n (λ a. aggregate (slice_index_or old a no_totals).func (slice_index_or c.args.values.now a (pos 0) ∷ []))
    (puts_values c.self.inside.keys c.number_with_room.new.keys key n old c.number_with_room.new.columns.items c.fold_values.new.columns.items c.args.values.now
    c.in_ok-number.ensures.numbers c.in_ok-number.ensures.same c.fold_values.ensures.count c.fold_values.ensures.each))

pub returns-clause-folds : goal.returns-clause-folds
returns-clause-folds c =
    let old = map totals_of c.self.inside.columns.items in
    let key = group_key_of c.args.key.now in
    let n = c.in_ok-number.number in
    rw (← c.self.view_is) (λ rows few folds.
    folds_row (record { keys = c.self.inside.keys; columns = old })
    (record { keys = c.number_with_room.new.keys; columns = map totals_of c.fold_values.new.columns.items })
    key n c.args.values.now rows c.self.invariant.groups
    (puts_values c.self.inside.keys c.number_with_room.new.keys key n old c.number_with_room.new.columns.items c.fold_values.new.columns.items c.args.values.now
    (rw c.group_key-key.ensures at c.in_ok-number.ensures.numbers) c.in_ok-number.ensures.same c.fold_values.ensures.count c.fold_values.ensures.each)
    c.fold_values.ensures.fits few (length-rows_with key rows) folds)
