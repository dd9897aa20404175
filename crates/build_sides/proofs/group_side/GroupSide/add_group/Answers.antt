use Rattle.std.proofs.Common.{◌≡◌, ◌<◌, length, map, sym, ap, ◌∙◌, arith}
use Rattle.build_sides.specs.Chains.{key_at}
use Rattle.build_sides.specs.Columns.{func_of, totals_of}
use Rattle.build_sides.specs.GroupSides.{total_at}
use Rattle.build_sides.specs.GroupTotals.{Totals}
use Rattle.build_sides.proofs.Folding.{groups_more}
use Rattle.build_sides.proofs.Groups.{folds_group}
use Rattle.build_sides.proofs.Places.{all_same, funcs_stay, map-func, puts_totals}
use Rattle.build_sides.proofs.group_side.GroupSide.add_group.Goals as goal

pub number_with_room-requires : goal.number_with_room-requires
number_with_room-requires c = record {
  parts = c.self.invariant.parts;
  all = all_same c.self.inside.columns.items (length c.self.inside.keys) c.self.invariant.groups.same;
}

pub add_totals-requires-clause-same : goal.add_totals-requires-clause-same
add_totals-requires-clause-same c =
    let others = c.other.inside.columns.items in
    let same : map (λ (x : Totals). x.func) (map totals_of c.self.inside.columns.items) ≡ map (λ (x : Totals). x.func) (map totals_of others) =
    rw (← c.self.view_is, ← c.other.view_is) at c.requires.same in
    sym (map-func c.number_with_room.new.columns.items) ∙ ap (map (λ (x : Totals). x.func)) c.in_ok-number.ensures.same ∙ same ∙ map-func others
    ∙ ap (map func_of) (sym c.as_slice.ensures.value)

pub add_totals-requires-clause-within : goal.add_totals-requires-clause-within
add_totals-requires-clause-within c =
    let lt : c.args.from < length c.other.inside.keys = rw (← c.other.view_is) at c.requires.within in
    rw c.as_slice.ensures.value (λ k d within.
    omega (arith, all_same c.other.inside.columns.items (length c.other.inside.keys) c.other.invariant.groups.same k d within))

pub invariant_of-self-2 : goal.invariant_of-self-2
invariant_of-self-2 c =
    let old = map totals_of c.self.inside.columns.items in
    let others = c.other.inside.columns.items in
    let key = key_at c.other.inside.keys c.args.from in
    let n = c.in_ok-number.number in
    record {
      groups = groups_more (record { keys = c.self.inside.keys; columns = old })
          (record { keys = c.number_with_room.new.keys; columns = map totals_of c.add_totals.new.columns.items })
          key n (λ a. total_at (record { keys = c.other.inside.keys; columns = map totals_of others }) a c.args.from) c.self.invariant.groups
          (puts_totals c.self.inside.keys c.number_with_room.new.keys c.other.inside.keys key n c.args.from c.self.inside.columns.items
          c.number_with_room.new.columns.items c.add_totals.new.columns.items others (rw c.key-key.ensures at c.in_ok-number.ensures.numbers)
          c.in_ok-number.ensures.same (rw (← c.self.view_is, ← c.other.view_is) at c.requires.same) c.add_totals.ensures.count
          (rw c.as_slice.ensures.value at c.add_totals.ensures.each));
      parts = c.in_ok-number.ensures.parts;
    }

pub returns-clause-funcs : goal.returns-clause-funcs
returns-clause-funcs c =
    let old = map totals_of c.self.inside.columns.items in
    let others = c.other.inside.columns.items in
    let key = key_at c.other.inside.keys c.args.from in
    let n = c.in_ok-number.number in
    rw (← c.self.view_is) (
    funcs_stay (record { keys = c.self.inside.keys; columns = old })
    (record { keys = c.number_with_room.new.keys; columns = map totals_of c.add_totals.new.columns.items })
    key n (λ a. total_at (record { keys = c.other.inside.keys; columns = map totals_of others }) a c.args.from)
    (puts_totals c.self.inside.keys c.number_with_room.new.keys c.other.inside.keys key n c.args.from c.self.inside.columns.items
    c.number_with_room.new.columns.items c.add_totals.new.columns.items others (rw c.key-key.ensures at c.in_ok-number.ensures.numbers)
    c.in_ok-number.ensures.same (rw (← c.self.view_is, ← c.other.view_is) at c.requires.same) c.add_totals.ensures.count
    (rw c.as_slice.ensures.value at c.add_totals.ensures.each)))

pub returns-clause-folds : goal.returns-clause-folds
returns-clause-folds c =
    let old = map totals_of c.self.inside.columns.items in
    let others = c.other.inside.columns.items in
    let key = key_at c.other.inside.keys c.args.from in
    let n = c.in_ok-number.number in
    let lt : c.args.from < length c.other.inside.keys = rw (← c.other.view_is) at c.requires.within in
    let same : map (λ (x : Totals). x.func) old ≡ map (λ (x : Totals). x.func) (map totals_of others) =
    rw (← c.self.view_is, ← c.other.view_is) at c.requires.same in
    rw (← c.self.view_is, ← c.other.view_is) (λ rows more few folds of_other.
    folds_group (record { keys = c.self.inside.keys; columns = old })
    (record { keys = c.number_with_room.new.keys; columns = map totals_of c.add_totals.new.columns.items })
    (record { keys = c.other.inside.keys; columns = map totals_of others }) n c.args.from rows more c.self.invariant.groups c.other.invariant.groups lt same
    (puts_totals c.self.inside.keys c.number_with_room.new.keys c.other.inside.keys key n c.args.from c.self.inside.columns.items
    c.number_with_room.new.columns.items c.add_totals.new.columns.items others (rw c.key-key.ensures at c.in_ok-number.ensures.numbers)
    c.in_ok-number.ensures.same same c.add_totals.ensures.count (rw c.as_slice.ensures.value at c.add_totals.ensures.each))
    few folds of_other)
