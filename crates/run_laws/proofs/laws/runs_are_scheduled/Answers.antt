use Rattle.run_laws.proofs.Scheduled.{runs-are-scheduled}
use Rattle.run_laws.proofs.laws.runs_are_scheduled.Goals as goal

pub returns : goal.returns
returns c = runs-are-scheduled
