use Rattle.slot_history.proofs.laws.slots.last_in_slot.Goals as goal
use Rattle.slot_history.proofs.Looks.{last-in-slot, finishing-in-slot}

pub returns : goal.returns
returns c = record { last = last-in-slot; finishing = finishing-in-slot }
