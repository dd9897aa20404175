-- Which call a worker may make in a state, and which answer it has there.
use Rattle.std.specs.Prelude.{◌≡◌, ◌≢◌, ℕ, ◌+◌, ◌*◌, ◌%◌, ◌^◌, ◌<◌, ◌≤◌, ◌⊎◌, Bool, true, false}
use Rattle.std.specs.Prelude.{cond, min, None, IsSome}
use Rattle.std.specs.Int.{bit_at}
use Rattle.slot_history.specs.declared.shape.Shape.{Shape}
use Rattle.slot_history.specs.declared.shape.TheConstants.{STAGES, PARTS, MOST_CLAIM, MOST_TOTAL}
use Rattle.slot_history.specs.declared.act.Act.{Act}
use Rattle.slot_history.specs.declared.act.Act.TheVariants.{Enter, LookOpen, LookInvalid}
use Rattle.slot_history.specs.declared.act.Act.TheVariants.{LookVacant, ClaimRange, ClaimUsed}
use Rattle.slot_history.specs.declared.act.Act.TheVariants.{ShutWon, ShutLost, LeaveLeft, LeaveOwe}
use Rattle.slot_history.specs.declared.act.Act.TheVariants.{PayLast, PayDone, MarkMarked}
use Rattle.slot_history.specs.declared.act.Act.TheVariants.{MarkMissed, SweepLast, SweepOthers}
use Rattle.slot_history.specs.declared.act.Act.TheVariants.{ReserveGot, ReserveTaken, AdmitGot}
use Rattle.slot_history.specs.declared.act.Act.TheVariants.{AdmitLost, Arrivals, Finished, NoteDone}
use Rattle.slot_history.specs.declared.act.Act.TheVariants.{SetTotal, Install, Release, Announce}
use Rattle.slot_history.specs.declared.act.Act.TheVariants.{TakeReturn, TakeChange}
use Rattle.slot_history.specs.declared.place.Held.{Held}
use Rattle.slot_history.specs.declared.place.Place.TheVariants.{Free, Entered, Inside, Used, Asking}
use Rattle.slot_history.specs.declared.place.Place.TheVariants.{Owing, Holding, Announcing}
use Rattle.slot_history.specs.Sets.{count_of}
use Rattle.slot_history.specs.States.{SlotState, Shut, ObjectState, slot_of, task_of, id_of}
use Rattle.slot_history.specs.States.{is_empty, is_vacant, is_open, is_shut, is_tagged, is_swept}
use Rattle.slot_history.specs.States.{owes, slot_word, is_at, can_leave, next_id}
use Rattle.slot_history.specs.Steps.{ended, next_asked}

-- how many marked workers of a slot have not paid
abbrev pub debts : Shape → SlotState → ℕ
debts d x = count_of d.workers (owes x)

-- the worker that the coordinator of a shut slot asks next is at the slot
abbrev pub next_is_at : Shape → ObjectState → ℕ → SlotState → Bool
next_is_at d S s (Shut t end) = is_at (S.places (next_asked d end)) s
next_is_at d S s x = false

-- a number of 64 bits, whose bit k is set exactly if the notice of slot k of the part is pending
pub record IsMask (part : ℕ) (pending : ℕ → Bool) (bits : ℕ) : Type 0 where
  pub small : bits < 2 ^ 64
  pub each : (k : ℕ) → k < 64 → bit_at bits k ≡ cond (pending (part * 64 + k)) 1 0

-- the bit of a slot in the mask word of its part: 2 ^ (s % 64), in the form in which the machine's
-- shift `1 << (s % 64)` of 64 bits gives it
abbrev pub bit_of : ℕ → ℕ
bit_of s = 1 * 2 ^ (s % 64) % 2 ^ 64

-- The holder may install the next task set: it has a query, and it set the total. After a
-- finalisation it also noted exactly one task set as done, and the query may have one more stage.
pub record IsReady (held : Held) : Type 0 where
  pub has_query : IsSome held.query
  pub has_total : IsSome held.total
  pub next_stage : held.again ≡ true → (held.noted ≡ 1) × (held.stage + 1 < STAGES)

-- The call is allowed in this state, and the answer is the one that it has there. Each line names
-- the places at which the call is allowed, then its conditions, then what the answer says.
abbrev pub IsAllowed : Shape → ObjectState → ℕ → Act → Type 0
IsAllowed d S w (Enter s) = (S.places w ≡ Free) × (s < d.slots)
IsAllowed d S w (LookOpen id) = (s : ℕ) × (S.places w ≡ Entered s) × (is_open (S.slots s) ≡ true)
    × (id ≡ id_of (S.slots s))
IsAllowed d S w LookInvalid = (s : ℕ) × (S.places w ≡ Entered s) × (is_tagged (S.slots s) ≡ true)
IsAllowed d S w LookVacant = (s : ℕ) × (S.places w ≡ Entered s) × (is_vacant (S.slots s) ≡ true)
IsAllowed d S w (ClaimRange n from to) = (s id : ℕ) × (S.places w ≡ Inside s id) × (0 < n)
    × (n ≤ MOST_CLAIM) × (from ≡ (task_of (S.slots s)).cursor)
    × (from < (task_of (S.slots s)).total) × (to ≡ min (task_of (S.slots s)).total (from + n))
IsAllowed d S w (ClaimUsed n) = (s id : ℕ) × (S.places w ≡ Inside s id) × (0 < n)
    × (n ≤ MOST_CLAIM) × ((task_of (S.slots s)).total ≤ (task_of (S.slots s)).cursor)
IsAllowed d S w ShutWon = (s id : ℕ) × (S.places w ≡ Used s id) × (is_open (S.slots s) ≡ true)
IsAllowed d S w ShutLost = (s id : ℕ) × (S.places w ≡ Used s id) × (is_shut (S.slots s) ≡ true)
IsAllowed d S w LeaveLeft = (can_leave (S.places w) ≡ true)
    × (owes (S.slots (slot_of (S.places w))) w ≡ false)
IsAllowed d S w (LeaveOwe id) = (can_leave (S.places w) ≡ true)
    × (owes (S.slots (slot_of (S.places w))) w ≡ true)
    × (id ≡ id_of (S.slots (slot_of (S.places w))))
IsAllowed d S w PayLast = (s id : ℕ) × (S.places w ≡ Owing s id) × (is_swept (S.slots s) ≡ true)
    × (debts d (ended d w PayDone (S.slots s)) ≡ 0)
IsAllowed d S w PayDone = (s id : ℕ) × (S.places w ≡ Owing s id)
    × ((is_swept (S.slots s) ≡ false) ⊎ (0 < debts d (ended d w PayDone (S.slots s))))
IsAllowed d S w MarkMarked = (s id asked marked : ℕ) × (S.places w ≡ Asking s id asked marked)
    × (asked + 1 < d.workers) × (next_is_at d S s (S.slots s) ≡ true)
IsAllowed d S w MarkMissed = (s id asked marked : ℕ) × (S.places w ≡ Asking s id asked marked)
    × (asked + 1 < d.workers) × (next_is_at d S s (S.slots s) ≡ false)
IsAllowed d S w SweepLast = (s id asked marked : ℕ) × (S.places w ≡ Asking s id asked marked)
    × (asked + 1 ≡ d.workers) × (debts d (S.slots s) ≡ 0)
IsAllowed d S w (SweepOthers n) = (s id asked marked : ℕ) × (S.places w ≡ Asking s id asked marked)
    × (asked + 1 ≡ d.workers) × (0 < n) × (n ≡ debts d (S.slots s))
IsAllowed d S w (ReserveGot s) = (S.places w ≡ Free) × (s < d.slots) × (is_empty (S.slots s) ≡ true)
IsAllowed d S w (ReserveTaken s word) = (S.places w ≡ Free) × (s < d.slots)
    × (is_empty (S.slots s) ≡ false) × (word ≡ slot_word (S.slots s))
IsAllowed d S w (AdmitGot q) = (s : ℕ) × (held : Held) × (S.places w ≡ Holding s held)
    × (held.query ≡ None) × (q < d.queries) × (S.admitted ≡ q)
IsAllowed d S w (AdmitLost q now) = (s : ℕ) × (held : Held) × (S.places w ≡ Holding s held)
    × (held.query ≡ None) × (q < d.queries) × (now ≡ S.admitted) × (now ≢ q)
IsAllowed d S w (Arrivals n) = n ≡ S.admitted
IsAllowed d S w (Finished n) = n ≡ S.finished
IsAllowed d S w (NoteDone n) = (s : ℕ) × (held : Held) × (S.places w ≡ Holding s held)
    × IsSome held.query × (held.noted ≡ 0) × (0 < n) × (held.stage + n ≤ STAGES)
IsAllowed d S w (SetTotal n) = (s : ℕ) × (held : Held) × (S.places w ≡ Holding s held)
    × IsSome held.query × (n ≤ MOST_TOTAL)
IsAllowed d S w (Install id) = (s : ℕ) × (held : Held) × (S.places w ≡ Holding s held)
    × IsReady held × (id ≡ next_id held)
IsAllowed d S w Release = (s : ℕ) × (held : Held) × (S.places w ≡ Holding s held)
    × ((held.query ≡ None) ⊎ (0 < held.noted))
IsAllowed d S w Announce = (s : ℕ) × (again : Bool) × (told : ℕ)
    × (S.places w ≡ Announcing s again told)
IsAllowed d S w (TakeReturn part bits) = (part < PARTS) × IsMask part (S.returns w) bits
IsAllowed d S w (TakeChange part bits) = (part < PARTS) × IsMask part (S.changes w) bits
