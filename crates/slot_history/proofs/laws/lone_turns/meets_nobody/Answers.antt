use Rattle.slot_history.proofs.LoneTurns.{meets-nobody, run-meets-nobody}
use Rattle.slot_history.proofs.laws.lone_turns.meets_nobody.Goals as goal

pub returns : goal.returns
returns c = record { call = meets-nobody; run = run-meets-nobody }
