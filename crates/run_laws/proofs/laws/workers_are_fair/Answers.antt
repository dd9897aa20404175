use Rattle.run_laws.proofs.FairTurns.{workers-are-fair}
use Rattle.run_laws.proofs.laws.workers_are_fair.Goals as goal

pub returns : goal.returns
returns c = workers-are-fair
