use Rattle.std.proofs.Common.{sym, subst}
use Rattle.one_thread.specs.Stories.{Story}
use Rattle.one_thread.specs.Tables.{IsTableKept, table_of}
use Rattle.one_thread.proofs.TablesKept.{table-opening}
use Rattle.one_thread.proofs.Seated.{none-of}
use Rattle.one_thread.proofs.table.make_with.Goals as goal

pub invariant_of-result : goal.invariant_of-result
invariant_of-result g c =
    let d = c.args.shape in
    let cells = c.in_ok-cells.cells.items in
    subst (λ (x : Story). IsTableKept g.B.Fits (table_of x c.args.subject.value) cells) (sym c.in_ok-object.ensures)
    (table-opening g.B.Fits d c.args.subject.value c.requires.queries cells c.in_ok-cells.ensures.count
    (none-of cells c.in_ok-cells.ensures.none))
