use Rattle.std.proofs.Common.{refl}
use Rattle.slot_history.specs.Calls.{mask_of}
use Rattle.slot_history.proofs.laws.examples.filled_slots.Goals as goal

pub returns : goal.returns
unfolding mask_of
returns c = record { taken = refl; filled_again = refl; notices_cross = refl }
