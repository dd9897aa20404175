use Rattle.std.proofs.lemmas.Result.{IfOk-weaker}
use Rattle.pipe_ops.proofs.ScanGroupsLemmas.{table_folds}
use Rattle.pipe_ops.proofs.scan_groups.fold_rows.Goals as goal

pub returns-clause-folds : goal.returns-clause-folds
returns-clause-folds c =
    IfOk-weaker c.fold_rows.result _ _ (λ u folds.
    table_folds c.args.table.now c.args.by.now c.args.aggs.now c.args.rows.now c.args.side.now c.fold_rows.new.self c.requires.columns folds)
    c.fold_rows.ensures.folds
