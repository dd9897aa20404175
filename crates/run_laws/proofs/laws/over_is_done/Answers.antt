use Rattle.run_laws.proofs.Completes.{over-is-done, stages-before}
use Rattle.run_laws.proofs.laws.over_is_done.Goals as goal

pub returns : goal.returns
returns c = record { done = over-is-done; stages = stages-before }
