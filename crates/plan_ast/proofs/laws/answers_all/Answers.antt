use Rattle.plan_ast.proofs.LawLemmas.{answers_all-last}
use Rattle.plan_ast.proofs.laws.answers_all.Goals as goal

pub returns : goal.returns
returns c = answers_all-last
