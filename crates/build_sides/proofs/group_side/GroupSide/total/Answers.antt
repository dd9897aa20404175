use Rattle.std.proofs.Common.{◌≡◌, ◌<◌, length, map, slice_index_or, sym, ap, ◌∙◌, arith}
use Rattle.std.proofs.lemmas.List.{length-map}
use Rattle.build_sides.specs.Columns.{totals_of, values_of}
use Rattle.build_sides.specs.GroupTotals.{Totals, nothing_of}
use Rattle.build_sides.specs.declared.columns.Column.{Column}
use Rattle.build_sides.proofs.Groups.{total_is}
use Rattle.build_sides.proofs.Places.{all_same, column_at}
use Rattle.build_sides.proofs.group_side.GroupSide.total.Goals as goal

pub total-requires : goal.total-requires
total-requires c =
    let items = c.self.inside.columns.items in
    let lt : c.args.number < length c.self.inside.keys = rw (← c.self.view_is) at c.requires.number in
    let within : c.args.place < length (map totals_of items) = rw (← c.self.view_is) at c.requires.place in
    let inside : c.args.place < length items = omega (arith, length-map items totals_of) in
    let same : length (values_of c.index.result.now) ≡ length c.self.inside.keys =
    ap (λ (x : Column). length (values_of x)) c.index.ensures
    ∙ all_same items (length c.self.inside.keys) c.self.invariant.groups.same c.args.place c.index.result.now inside in
    omega arith

pub returns-clause-folds : goal.returns-clause-folds
returns-clause-folds c =
    let items = c.self.inside.columns.items in
    let lt : c.args.number < length c.self.inside.keys = rw (← c.self.view_is) at c.requires.number in
    let within : c.args.place < length (map totals_of items) = rw (← c.self.view_is) at c.requires.place in
    let inside : c.args.place < length items = omega (arith, length-map items totals_of) in
    rw (← c.self.view_is) (λ rows folds.
    c.total.ensures.value
    ∙ ap (λ (x : Totals). slice_index_or x.values c.args.number (nothing_of x))
    (ap totals_of c.index.ensures ∙ sym (column_at items c.args.place c.index.result.now inside))
    ∙ total_is (record { keys = c.self.inside.keys; columns = map totals_of items }) rows c.args.number c.args.place c.self.invariant.groups folds lt within)
