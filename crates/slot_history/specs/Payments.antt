-- What a payment and a mark change in the numbers of a shut slot.
use Rattle.std.specs.Prelude.{◌≡◌, ℕ, ◌+◌, ◌<◌}
use Rattle.slot_history.specs.declared.shape.Shape.{Shape}
use Rattle.slot_history.specs.declared.act.Act.TheVariants.{PayLast, PayDone, MarkMarked}
use Rattle.slot_history.specs.Sets.{count_of}
use Rattle.slot_history.specs.States.{SlotState, Shut, ObjectState, slot_of}
use Rattle.slot_history.specs.Steps.{slot_after}
use Rattle.slot_history.specs.Allowed.{IsAllowed, debts}

-- how many workers paid at a slot, and how many were marked there
abbrev pub payments : Shape → SlotState → ℕ
payments d (Shut t end) = count_of d.workers end.paid
payments d x = 0

abbrev pub marks : Shape → SlotState → ℕ
marks d (Shut t end) = count_of d.workers end.marked
marks d x = 0

-- from x to y one worker more has paid
abbrev pub IsOnePaid : Shape → SlotState → SlotState → Type 0
IsOnePaid d x y = (payments d y ≡ payments d x + 1) × (debts d y + 1 ≡ debts d x)
    × (marks d y ≡ marks d x)

-- from x to y one worker more was marked
abbrev pub IsOneMarked : Shape → SlotState → SlotState → Type 0
IsOneMarked d x y = (payments d y ≡ payments d x) × (debts d y ≡ debts d x + 1)
    × (marks d y ≡ marks d x + 1)

-- A mark adds one mark and one debt. A payment that is not the last adds one payment and takes one
-- debt. Before the last payment there is one debt.
abbrev pub DebtsGoOn : Shape → ObjectState → Type 0
DebtsGoOn d S = (w : ℕ) → w < d.workers → let x = S.slots (slot_of (S.places w)) in
    (IsAllowed d S w MarkMarked → IsOneMarked d x (slot_after d w MarkMarked x))
    × (IsAllowed d S w PayDone → IsOnePaid d x (slot_after d w PayDone x))
    × (IsAllowed d S w PayLast → debts d x ≡ 1)
