use Rattle.slot_history.proofs.LoneTurns.{stays-lone, ends-quiet}
use Rattle.slot_history.proofs.laws.lone_turns.stays_lone.Goals as goal

pub returns : goal.returns
returns c = record { lone = stays-lone; quiet = ends-quiet }
