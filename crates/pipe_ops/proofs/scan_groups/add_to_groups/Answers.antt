use Rattle.std.proofs.Common.{◌≡◌, ◌<◌, List, All, flat_map, length, map, sym, ap, ◌∙◌, refl, subst, arith}
use Rattle.std.proofs.lemmas.List.{length-map}
use Rattle.std.proofs.lemmas.Result.{IfOk-weaker}
use Rattle.col_table.specs.NamedRows.{NamedRows}
use Rattle.plan_ast.specs.Answer.{JoinedRow}
use Rattle.plan_ast.specs.Places.{sides_at, table_at}
use Rattle.pipe_ops.specs.Folding.{singles_at}
use Rattle.pipe_ops.specs.StagePlaces.{FoldsMore, folded_row_at, joined_by}
use Rattle.pipe_ops.specs.Taking.{AreGroupColumns, IsOutputOf}
use Rattle.pipe_ops.specs.declared.acc.Acc.TheVariants as acc
use Rattle.pipe_ops.proofs.ChunkLemmas.{unjoined_rows}
use Rattle.pipe_ops.proofs.JoiningLemmas.{scanned_side}
use Rattle.pipe_ops.proofs.ScanGroupsLemmas.{groups_alone}
use Rattle.pipe_ops.proofs.TakesLemmas.{takes_groups}
use Rattle.pipe_ops.proofs.scan_groups.add_to_groups.Goals as goal

pub fold_rows-requires-clause-columns : goal.fold_rows-requires-clause-columns
fold_rows-requires-clause-columns c =
    let tables = c.args.scan.now.tables.now in
    let places = c.args.scan.now.places.now in
    let sides = sides_at tables places.tables in
    let by = c.in-Groups.by in
    let aggs = c.in-Groups.aggs in
    let all : AreGroupColumns sides by aggs = subst (IsOutputOf sides) c.in-Groups.is c.requires.scan.output in
    let one : length sides ≡ 1 = omega (arith, length-map places.tables (table_at tables), c.requires.scan.places.joins.count, c.requires.alone) in
    let table = c.table_of-table.ensures ∙ sym (scanned_side tables places c.requires.scan.places c.as_slice.result.now c.as_slice.ensures) in
    rw (c.as_slice-in-Groups.ensures, c.as_slice-in-Groups-2.ensures) (groups_alone sides c.table_of-table.result.now by aggs one table all)

pub fold_rows-requires-clause-rows : goal.fold_rows-requires-clause-rows
fold_rows-requires-clause-rows c =
    let table = c.table_of-table.ensures
    ∙ sym (scanned_side c.args.scan.now.tables.now c.args.scan.now.places.now c.requires.scan.places c.as_slice.result.now c.as_slice.ensures) in
    subst (λ (t : NamedRows). All (λ row. row < length t.rows) c.args.rows.now) (sym table) c.requires.within

pub returns : goal.returns
returns c =
    let tables = c.args.scan.now.tables.now in
    let places = c.args.scan.now.places.now in
    let rows = c.args.rows.now in
    let by = c.in-Groups.by in
    let aggs = c.in-Groups.aggs in
    let old = c.args.side.now in
    let new = c.fold_rows.new.side in
    let joined = flat_map (joined_by tables places) rows in
    let table = c.table_of-table.ensures ∙ sym (scanned_side tables places c.requires.scan.places c.as_slice.result.now c.as_slice.ensures) in
    let singles = ap (λ (t : NamedRows). singles_at t rows) table ∙ sym (unjoined_rows tables places c.requires.alone rows) in
    let all = rw (c.as_slice-in-Groups.ensures, c.as_slice-in-Groups-2.ensures) at c.fold_rows.ensures.folds in
    IfOk-weaker c.fold_rows.result _ _ (λ u folds.
    takes_groups places.output by aggs old new (acc.Groups old) (acc.Groups new) joined c.in-Groups.is refl refl c.fold_rows.ensures.funcs
    (subst (λ (l : List JoinedRow). FoldsMore (map (folded_row_at by aggs) l) old new) singles folds)) all
