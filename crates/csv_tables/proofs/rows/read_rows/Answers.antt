use Rattle.std.proofs.Common.{◌≢◌, ◌∙◌, ◌++◌, ◌∷◌, [], ap, arith, length, subst, sym}
use Rattle.std.proofs.lemmas.List.{append_assoc}
use Rattle.col_table.specs.NamedRows.{with_row}
use Rattle.col_table.specs.declared.table.TheConstants.{MAX_ROWS}
use Rattle.csv_tables.specs.Loading.{GrowsBy, IsRow}
use Rattle.csv_tables.specs.Reading.{records_at}
use Rattle.csv_tables.proofs.Growth.{grows_more}
use Rattle.csv_tables.proofs.rows.read_rows.Goals as goal

pub add_row-requires-clause-room : goal.add_row-requires-clause-room
add_row-requires-clause-room c =
    let (line, at, is, values, few) = rw c.in-Some.is at c.in_ok-next.ensures.read in
    omega (arith, few, c.rows.ensures.count)

pub loop-next-preserved : goal.loop-next-preserved
loop-next-preserved c =
    let bytes = c.args.bytes.now in
    let table = c.loop-next.table in
    let done = c.loop-next.invariant.done in
    let width = c.loop-next.invariant.width in
    let (line, at, is, values, few) = rw c.in-Some.is at c.in_ok-next.ensures.read in
    let row = subst (λ count. IsRow count line) width is in
    let pushed = c.in_ok-add_row.ensures ∙ ap (with_row table) values in
    let room : length table.rows ≢ MAX_ROWS = λ full. absurd (omega (arith, few, c.rows.ensures.count)) in
    record {
      within = at.within;
      done = done ++ line ∷ [];
      left = c.loop-next.invariant.left ∙ ap (λ rest. done ++ rest) at.records ∙ sym (append_assoc done (line ∷ []) (records_at bytes c.in-Some.next));
      grows = subst (GrowsBy c.args.table.now (done ++ line ∷ [])) (sym pushed)
          (grows_more c.args.table.now table done line c.loop-next.invariant.grows row room);
      width = omega (arith, width, c.read_row.auto.row);
    }
