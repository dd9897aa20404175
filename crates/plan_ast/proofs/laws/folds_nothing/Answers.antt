use Rattle.plan_ast.proofs.LawLemmas.{folds_nothing-stages}
use Rattle.plan_ast.proofs.laws.folds_nothing.Goals as goal

pub returns : goal.returns
returns c = folds_nothing-stages
