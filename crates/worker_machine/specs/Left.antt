-- How many steps a turn still takes at most.
use Rattle.std.specs.Prelude.{ℕ, ◌+◌, ◌*◌, ◌-◌, ◌<◌, Bool, true, false}
use Rattle.slot_history.specs.declared.shape.Shape.{Shape}
use Rattle.slot_history.specs.declared.shape.TheConstants.{PARTS}
use Rattle.slot_station.specs.Desks.{Desk}
use Rattle.bench_cell.specs.declared.plan.Plan.{Plan}
use Rattle.worker_machine.specs.declared.phase.Phase.{Phase}
use Rattle.worker_machine.specs.declared.phase.Phase.TheVariants.{Ready, Return, Change, Count}
use Rattle.worker_machine.specs.declared.phase.Phase.TheVariants.{Arrive, Scan, Admit, Put, Size}
use Rattle.worker_machine.specs.declared.phase.Phase.TheVariants.{Install, Tell, Give, FreeIt}
use Rattle.worker_machine.specs.declared.phase.Phase.TheVariants.{Look, Early, Take, Claim, Shut}
use Rattle.worker_machine.specs.declared.phase.Phase.TheVariants.{Back, Leave, Ask, Sweep, Pay}
use Rattle.worker_machine.specs.declared.phase.Phase.TheVariants.{Enter, Fetch, Note}

-- the most steps of a whole turn
abbrev pub turn_bound : Shape → ℕ
turn_bound d = d.slots + 4 * d.workers + 2 * PARTS + 16

-- At most four times a turn makes a step for each worker: it asks, fetches, puts and tells. It
-- scans each slot once, takes 2 * PARTS words of notices, and all else takes 16 steps. So a line
-- adds up the slots that are left to be scanned, the workers that are left in the round under way,
-- those of the rounds that may follow, and the single steps between them.
abbrev pub left : Desk Plan → Phase → ℕ
left D (Ready e) = turn_bound D.shape
left D (Return k) = D.shape.slots + 4 * D.shape.workers + 15 + PARTS + (PARTS - k)
left D (Change k) = D.shape.slots + 4 * D.shape.workers + 15 + (PARTS - k)
left D Count = D.shape.slots + 4 * D.shape.workers + 15
left D Arrive = D.shape.slots + 4 * D.shape.workers + 14
left D (Scan s) = (D.shape.slots - s) + 4 * D.shape.workers + 13
left D (Admit h) = 2 * D.shape.workers + 4
left D (Put h v) = (D.shape.workers - v) + D.shape.workers + 3
left D (Size h) = D.shape.workers + 3
left D (Install h) = D.shape.workers + 2
left D (Tell x) = D.shape.workers - x.told
left D (Give h) = 2
left D (FreeIt h) = 1
left D (Enter s) = 4 * D.shape.workers + 13
left D (Look s) = 4 * D.shape.workers + 12
left D Early = 3 * D.shape.workers + 7
left D (Take s id) = 4 * D.shape.workers + 11
left D (Claim s id b) = 4 * D.shape.workers + 10
left D (Shut x b) = 4 * D.shape.workers + 9
left D (Back c b) = 4 * D.shape.workers + 8
left D (Leave c) = 4 * D.shape.workers + 7
left D (Ask c) = (D.shape.workers - c.asked) + 3 * D.shape.workers + 6
left D (Sweep c) = 3 * D.shape.workers + 6
left D (Pay x) = 3 * D.shape.workers + 6
left D (Fetch h v) = (D.shape.workers - v) + 2 * D.shape.workers + 5
left D (Note h a) = 2 * D.shape.workers + 5

-- the turn has ended, or takes fewer than n steps more
abbrev pub IsBelow : Desk Plan → ℕ → Phase → Type 0
IsBelow D n (Ready e) = Unit {0}
IsBelow D n p = left D p < n

-- from one phase to another the end of the turn came nearer
abbrev pub IsNearer : Desk Plan → Phase → Phase → Type 0
IsNearer D from to = IsBelow D (left D from) to

abbrev pub is_ready : Phase → Bool
is_ready (Ready e) = true
is_ready _ = false
