use Rattle.plan_ast.proofs.FoldLemmas.{folds_add-stages}
use Rattle.plan_ast.proofs.laws.folds_add.Goals as goal

pub returns : goal.returns
returns c = folds_add-stages
