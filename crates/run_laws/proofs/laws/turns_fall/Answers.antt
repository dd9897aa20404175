use Rattle.run_laws.proofs.EndsWell.{left-is-low, turns-fall-as-one}
use Rattle.run_laws.proofs.laws.turns_fall.Goals as goal

pub returns : goal.returns
returns c = record { low = left-is-low; one = turns-fall-as-one }
