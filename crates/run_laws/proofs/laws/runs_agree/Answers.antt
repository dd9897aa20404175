use Rattle.run_laws.proofs.OneRun.{runs-by-turns-agree, runs-by-moves-agree}
use Rattle.run_laws.proofs.laws.runs_agree.Goals as goal

pub returns : goal.returns
returns c = record { turns = runs-by-turns-agree; moves = runs-by-moves-agree }
