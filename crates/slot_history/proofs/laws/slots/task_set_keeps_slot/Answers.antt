use Rattle.slot_history.proofs.laws.slots.task_set_keeps_slot.Goals as goal
use Rattle.slot_history.proofs.SlotTasks.{task-at, serving-slot}
use Rattle.slot_history.proofs.Looks.{task-keeps-slot}

pub returns : goal.returns
returns c = record { at = task-at; installed = serving-slot; keeps = task-keeps-slot }
