use Rattle.slot_history.proofs.laws.numbers_within.Goals as goal
use Rattle.slot_history.proofs.Table.{table}
use Rattle.slot_history.proofs.Numbers.{ids-within, places-name-ids, installs-within, claims-within}
use Rattle.slot_history.specs.Steps.{state_after}

pub returns : goal.returns
returns c = record {
  ids = ids-within;
  places = λ d h legal. places-name-ids d (state_after d h) (table d h legal);
  installs = installs-within;
  claims = claims-within;
}
