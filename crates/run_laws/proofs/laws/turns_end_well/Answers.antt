use Rattle.run_laws.proofs.EndsWell.{turns-end-well, ended-are-free}
use Rattle.run_laws.proofs.laws.turns_end_well.Goals as goal

pub returns : goal.returns
returns c = record { turns = turns-end-well; free = ended-are-free }
