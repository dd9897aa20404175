use Rattle.plan_ast.proofs.LawLemmas.{sums_agree-folds}
use Rattle.plan_ast.proofs.laws.sums_agree.Goals as goal

pub returns : goal.returns
returns c = sums_agree-folds
