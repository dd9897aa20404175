use Rattle.std.proofs.Common.{ap, sym, ◌∙◌, arith}
use Rattle.plan_ast.specs.Names.{side_names, table_place}
use Rattle.plan_ast.specs.Places.{table_at}
use Rattle.plan_ast.specs.declared.places.Places.{Places}
use Rattle.std.proofs.Common.{List, ℕ, get_or}
use Rattle.plan_ast.proofs.SideLemmas.{length-found, side-found, sides-found}
use Rattle.plan_ast.proofs.task_sets.table_of_side.Goals as goal

pub bounds-places-side : goal.bounds-places-side
bounds-places-side c =
    let count = length-found (table_place c.args.tables.now) (side_names c.args.checked.now.query) c.args.checked.now.places.tables
    c.requires.checked.places.sides in
    rw (c.as_slice-places.ensures, c.places.ensures) (omega (arith, count, c.requires.side))

pub table_of-requires : goal.table_of-requires
table_of-requires c =
    let count = length-found (table_place c.args.tables.now) (side_names c.args.checked.now.query) c.args.checked.now.places.tables
    c.requires.checked.places.sides in
    rw (c.as_slice-places.ensures, c.places.ensures)
    (sides-found c.args.tables.now (side_names c.args.checked.now.query) c.args.checked.now.places.tables c.requires.checked.places.sides c.args.side
    0 (omega (arith, count, c.requires.side)))

pub returns : goal.returns
returns c =
    c.table_of.ensures
    ∙ ap (λ (ns : List ℕ). table_at c.args.tables.now (get_or ns c.args.side 0)) (c.as_slice-places.ensures ∙ ap (λ (p : Places). p.tables) c.places.ensures)
    ∙ sym (side-found c.args.tables.now c.args.checked.now.query c.args.checked.now.places.tables c.args.side c.requires.checked.places.sides c.requires.side)
