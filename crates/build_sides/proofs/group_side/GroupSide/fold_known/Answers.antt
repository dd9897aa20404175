use Rattle.std.proofs.Common.{◌≡◌, ◌<◌, length, slice_index, slice_index_or, take, ◌∙◌, arith}
use Rattle.std.proofs.lemmas.List.{get_or_default, get_or-take, length-map, length-take}
use Rattle.build_sides.specs.FoldedRows.{folded_at}
use Rattle.build_sides.proofs.Known.{folded_first}
use Rattle.build_sides.proofs.Places.{all_same}
use Rattle.build_sides.proofs.group_side.GroupSide.fold_known.Goals as goal

pub fold_columns-requires-clause-known : goal.fold_columns-requires-clause-known
fold_columns-requires-clause-known c = λ a d lt k e short.
    let m = c.known_numbers-known.result in
    let numbers = c.known_numbers-known.new.numbers in
    let before : k < m = omega (arith, length-take m numbers) in
    let within : k < length numbers = omega (arith, length-take m numbers) in
    let number : slice_index_or (take m numbers) k e ≡ slice_index numbers k = get_or-take m numbers k e before ∙ get_or_default numbers k e 0 within in
    let same = all_same c.self.inside.columns.items (length c.self.inside.keys) c.self.invariant.groups.same a d lt in
    rw (number, same) (c.known_numbers-known.ensures.known k before).0

pub invariant_of-self : goal.invariant_of-self
invariant_of-self c =
    let folded = folded_first c.args.table.now c.args.by.now c.args.aggs.now c.self.inside.keys c.self.inside.columns.items
    c.fold_columns.new.columns.items c.args.rows.now c.known_numbers-known.new.numbers c.known_numbers-known.result c.self.invariant.groups
    c.known_numbers-known.ensures.few (omega arith) c.known_numbers-known.ensures.known c.fold_columns.ensures.count c.fold_columns.ensures.each
    c.fold_columns.ensures.fits in
    record { groups = folded.groups; parts = c.self.invariant.parts }

pub returns : goal.returns
returns c =
    let folded = folded_first c.args.table.now c.args.by.now c.args.aggs.now c.self.inside.keys c.self.inside.columns.items
    c.fold_columns.new.columns.items c.args.rows.now c.known_numbers-known.new.numbers c.known_numbers-known.result c.self.invariant.groups
    c.known_numbers-known.ensures.few (omega arith) c.known_numbers-known.ensures.known c.fold_columns.ensures.count c.fold_columns.ensures.each
    c.fold_columns.ensures.fits in
    let rows = take c.known_numbers-known.result c.args.rows.now in
    let count = length-map rows (folded_at c.args.table.now c.args.by.now c.args.aggs.now) in
    record {
      few = c.known_numbers-known.ensures.few;
      funcs = rw (← c.self.view_is) folded.funcs;
      stops = c.known_numbers-known.ensures.stops;
      folds = rw (← c.self.view_is)
          (λ done few folds. folded.folds done (omega (arith, count, length-take c.known_numbers-known.result c.args.rows.now)) folds);
    }
