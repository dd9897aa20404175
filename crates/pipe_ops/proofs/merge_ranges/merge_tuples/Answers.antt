use Rattle.std.proofs.Common.{◌≡◌, ap, arith}
use Rattle.std.proofs.lemmas.Result.{IfOk-weaker}
use Rattle.plan_ast.specs.Answer.{joined_rows}
use Rattle.plan_ast.specs.Folds.{range_of, union}
use Rattle.plan_ast.specs.Names.{sides_of}
use Rattle.plan_ast.specs.Stages.{tuples_of}
use Rattle.pipe_ops.specs.Inputs.{query_in, tables_in, total_in}
use Rattle.pipe_ops.proofs.MergeTuplesLemmas.{few_query, merge_more, merges_groups, merges_holds, zip_funcs}
use Rattle.pipe_ops.proofs.StageRangeLemmas.{places_within}
use Rattle.pipe_ops.proofs.merge_ranges.merge_tuples.Goals as goal

pub within_limits-requires : goal.within_limits-requires
within_limits-requires c = rw (c.as_slice.ensures, c.places-places.ensures, c.tables-tables.ensures) (places_within c.args.inputs.now c.requires.inputs).sides

pub merge_range-requires-clause-within : goal.merge_range-requires-clause-within
merge_range-requires-clause-within c =
    let inputs = c.args.inputs.now in
    let all : total_in inputs ≡ 16 = ap (tuples_of (tables_in inputs) (query_in inputs)) c.requires.merges in
    omega (arith, c.requires.range.within)

pub merge_range-requires-clause-funcs : goal.merge_range-requires-clause-funcs
merge_range-requires-clause-funcs c =
    let inputs = c.args.inputs.now in
    let is = merges_groups inputs c.requires.room.done c.args.side.now c.requires.inputs c.requires.merges c.requires.room.holds in
    rw c.parts.ensures (zip_funcs (sides_of (tables_in inputs) (query_in inputs)) is.by is.aggs c.args.side.now is.folds.funcs is.all.lists
    inputs.parts.items is.all.each)

pub returns : goal.returns
returns c =
    let inputs = c.args.inputs.now in
    let tables = tables_in inputs in
    let query = query_in inputs in
    let few = rw (c.as_slice.ensures, c.places-places.ensures, c.tables-tables.ensures) at c.within_limits.ensures in
    let adds = rw c.parts.ensures at c.merge_range.ensures.folds in
    IfOk-weaker c.merge_range.result _ _ (λ u folds done apart holds.
    let is = merges_groups inputs done c.args.side.now c.requires.inputs c.requires.merges holds in
    merges_holds inputs (union done (range_of c.args.from c.args.to)) c.merge_range.new.side is.by is.aggs c.requires.merges is.output
    (merge_more (sides_of tables query) is.by is.aggs (joined_rows tables query) done c.args.from c.args.to inputs.parts.items c.args.side.now
    c.merge_range.new.side is.all (few_query inputs c.requires.inputs few) apart is.folds c.merge_range.ensures.funcs folds)) adds
