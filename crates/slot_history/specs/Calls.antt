-- Calls without their answers: at which places each is allowed, and which answer the state gives.
use Rattle.std.specs.Prelude.{◌≡◌, ℕ, ◌+◌, ◌*◌, ◌^◌, ◌<◌, ◌≤◌, ◌⊎◌, zero, suc, Bool, true, cond}
use Rattle.std.specs.Prelude.{eqb, ltb, ◌&&◌, min, None, IsSome}
use Rattle.slot_history.specs.declared.shape.Shape.{Shape}
use Rattle.slot_history.specs.declared.shape.TheConstants.{STAGES, PARTS, MOST_CLAIM, MOST_TOTAL}
use Rattle.slot_history.specs.declared.act.Act.{Act}
use Rattle.slot_history.specs.declared.act.Act.TheVariants.{Enter, LookOpen, LookInvalid}
use Rattle.slot_history.specs.declared.act.Act.TheVariants.{LookVacant, ClaimRange, ClaimUsed}
use Rattle.slot_history.specs.declared.act.Act.TheVariants.{ShutWon, ShutLost, LeaveLeft, LeaveOwe}
use Rattle.slot_history.specs.declared.act.Act.TheVariants.{PayLast, PayDone, MarkMarked}
use Rattle.slot_history.specs.declared.act.Act.TheVariants.{MarkMissed, SweepLast, SweepOthers}
use Rattle.slot_history.specs.declared.act.Act.TheVariants.{ReserveGot, ReserveTaken, AdmitGot}
use Rattle.slot_history.specs.declared.act.Act.TheVariants.{AdmitLost, Arrivals, Finished, NoteDone}
use Rattle.slot_history.specs.declared.act.Act.TheVariants.{SetTotal, Install, Release, Announce}
use Rattle.slot_history.specs.declared.act.Act.TheVariants.{TakeReturn, TakeChange}
use Rattle.slot_history.specs.declared.place.Held.{Held}
use Rattle.slot_history.specs.declared.place.Place.{Place}
use Rattle.slot_history.specs.declared.place.Place.TheVariants.{Free, Entered, Inside, Used, Asking}
use Rattle.slot_history.specs.declared.place.Place.TheVariants.{Owing, Holding, Announcing}
use Rattle.slot_history.specs.States.{SlotState, Empty, Reserved, Open, Shut, Finishing}
use Rattle.slot_history.specs.States.{ObjectState, slot_of, task_of, id_of, is_empty, is_open}
use Rattle.slot_history.specs.States.{is_swept, owes, slot_word, can_leave, next_id}
use Rattle.slot_history.specs.Steps.{ended}
use Rattle.slot_history.specs.Allowed.{IsAllowed, IsReady, debts, next_is_at}

-- A call with its numbers. Each has the name of the station's call that it is. `MarkingNext` is
-- `mark_next`, and `AnnouncingNext` is `announce`, which tells the next worker; `Announcing` is the
-- place of whoever makes it.
pub data Call : Type 0 where
  Entering : ℕ → Call
  Looking : Call
  Claiming : ℕ → Call
  Shutting : Call
  Leaving : Call
  Paying : Call
  MarkingNext : Call
  Sweeping : Call
  Reserving : ℕ → Call
  Admitting : ℕ → Call
  AskingArrivals : Call
  AskingFinished : Call
  NotingDone : ℕ → Call
  SettingTotal : ℕ → Call
  Installing : ℕ → Call
  Releasing : Call
  AnnouncingNext : Call
  TakingReturn : ℕ → Call
  TakingChange : ℕ → Call

-- the call that was answered so
abbrev pub call_of : Act → Call
call_of (Enter s) = Entering s
call_of (LookOpen id) = Looking
call_of LookInvalid = Looking
call_of LookVacant = Looking
call_of (ClaimRange n from to) = Claiming n
call_of (ClaimUsed n) = Claiming n
call_of ShutWon = Shutting
call_of ShutLost = Shutting
call_of LeaveLeft = Leaving
call_of (LeaveOwe id) = Leaving
call_of PayLast = Paying
call_of PayDone = Paying
call_of MarkMarked = MarkingNext
call_of MarkMissed = MarkingNext
call_of SweepLast = Sweeping
call_of (SweepOthers n) = Sweeping
call_of (ReserveGot s) = Reserving s
call_of (ReserveTaken s word) = Reserving s
call_of (AdmitGot q) = Admitting q
call_of (AdmitLost q now) = Admitting q
call_of (Arrivals n) = AskingArrivals
call_of (Finished n) = AskingFinished
call_of (NoteDone n) = NotingDone n
call_of (SetTotal n) = SettingTotal n
call_of (Install id) = Installing id
call_of Release = Releasing
call_of Announce = AnnouncingNext
call_of (TakeReturn part bits) = TakingReturn part
call_of (TakeChange part bits) = TakingChange part

-- a worker at this place may make the call: it is one of the call's places, and its conditions hold
abbrev pub MayAt : Shape → Place → Call → Type 0
MayAt d p (Entering s) = (p ≡ Free) × (s < d.slots)
MayAt d p Looking = (s : ℕ) × (p ≡ Entered s)
MayAt d p (Claiming n) = (s id : ℕ) × (p ≡ Inside s id) × (0 < n) × (n ≤ MOST_CLAIM)
MayAt d p Shutting = (s id : ℕ) × (p ≡ Used s id)
MayAt d p Leaving = can_leave p ≡ true
MayAt d p Paying = (s id : ℕ) × (p ≡ Owing s id)
MayAt d p MarkingNext = (s id asked marked : ℕ) × (p ≡ Asking s id asked marked)
    × (asked + 1 < d.workers)
MayAt d p Sweeping = (s id asked marked : ℕ) × (p ≡ Asking s id asked marked)
    × (asked + 1 ≡ d.workers)
MayAt d p (Reserving s) = (p ≡ Free) × (s < d.slots)
MayAt d p (Admitting q) = (s : ℕ) × (held : Held) × (p ≡ Holding s held) × (held.query ≡ None)
    × (q < d.queries)
MayAt d p AskingArrivals = Unit {0}
MayAt d p AskingFinished = Unit {0}
MayAt d p (NotingDone n) = (s : ℕ) × (held : Held) × (p ≡ Holding s held) × IsSome held.query
    × (held.noted ≡ 0) × (0 < n) × (held.stage + n ≤ STAGES)
MayAt d p (SettingTotal n) = (s : ℕ) × (held : Held) × (p ≡ Holding s held) × IsSome held.query
    × (n ≤ MOST_TOTAL)
MayAt d p (Installing id) = (s : ℕ) × (held : Held) × (p ≡ Holding s held) × IsReady held
    × (id ≡ next_id held)
MayAt d p Releasing = (s : ℕ) × (held : Held) × (p ≡ Holding s held)
    × ((held.query ≡ None) ⊎ (0 < held.noted))
MayAt d p AnnouncingNext = (s : ℕ) × (again : Bool) × (told : ℕ) × (p ≡ Announcing s again told)
MayAt d p (TakingReturn part) = part < PARTS
MayAt d p (TakingChange part) = part < PARTS

-- the call is allowed: of a state this asks no more than the place of the worker that calls
abbrev pub MayCall : Shape → ObjectState → ℕ → Call → Type 0
MayCall d S w c = MayAt d (S.places w) c

-- the number of n bits whose bit k is set exactly if k is in the set f
unfoldable pub mask_of : ℕ → (ℕ → Bool) → ℕ
mask_of zero f = 0
mask_of (suc n) f = cond (f n) 1 0 * 2 ^ n + mask_of n f

abbrev pub looked_at : SlotState → Act
looked_at Empty = LookVacant
looked_at (Reserved w held) = LookVacant
looked_at (Open t) = LookOpen t.id
looked_at (Shut t end) = LookInvalid
looked_at (Finishing id w held) = LookInvalid

-- the call of the worker with its answer, by the slot that the call is about
abbrev pub answer_at : Shape → ObjectState → ℕ → Call → SlotState → Act
answer_at shape state worker (Entering s) slot = Enter s
answer_at shape state worker Looking slot = looked_at slot
answer_at shape state worker (Claiming n) slot = let t = task_of slot in
    cond (ltb t.cursor t.total) (ClaimRange n t.cursor (min t.total (t.cursor + n))) (ClaimUsed n)
answer_at shape state worker Shutting slot = cond (is_open slot) ShutWon ShutLost
answer_at shape state worker Leaving slot =
    cond (owes slot worker) (LeaveOwe (id_of slot)) LeaveLeft
answer_at shape state worker Paying slot =
    cond (is_swept slot && eqb (debts shape (ended shape worker PayDone slot)) 0) PayLast PayDone
answer_at shape state worker MarkingNext slot =
    cond (next_is_at shape state (slot_of (state.places worker)) slot) MarkMarked MarkMissed
answer_at shape state worker Sweeping slot =
    cond (eqb (debts shape slot) 0) SweepLast (SweepOthers (debts shape slot))
answer_at shape state worker (Reserving s) slot =
    cond (is_empty slot) (ReserveGot s) (ReserveTaken s (slot_word slot))
answer_at shape state worker (Admitting q) slot =
    cond (eqb state.admitted q) (AdmitGot q) (AdmitLost q state.admitted)
answer_at shape state worker AskingArrivals slot = Arrivals state.admitted
answer_at shape state worker AskingFinished slot = Finished state.finished
answer_at shape state worker (NotingDone n) slot = NoteDone n
answer_at shape state worker (SettingTotal n) slot = SetTotal n
answer_at shape state worker (Installing id) slot = Install id
answer_at shape state worker Releasing slot = Release
answer_at shape state worker AnnouncingNext slot = Announce
answer_at shape state worker (TakingReturn part) slot =
    TakeReturn part (mask_of 64 (λ k. state.returns worker (part * 64 + k)))
answer_at shape state worker (TakingChange part) slot =
    TakeChange part (mask_of 64 (λ k. state.changes worker (part * 64 + k)))

-- the slot that a call is about
abbrev pub call_site : Call → Place → ℕ
call_site (Entering s) p = s
call_site (Reserving s) p = s
call_site _ p = slot_of p

-- the call of w with its answer
abbrev pub reply_of : Shape → ObjectState → ℕ → Call → Act
reply_of d S w c = answer_at d S w c (S.slots (call_site c (S.places w)))

-- an allowed call has one answer, that of `reply_of`, which is an answer of this call; and the
-- calls that have an allowed answer are allowed
pub record IsAnswered (d : Shape) (S : ObjectState) : Type 0 where
  pub always : (w : ℕ) (c : Call) → w < d.workers → MayCall d S w c
      → IsAllowed d S w (reply_of d S w c)
  pub only : (w : ℕ) (a : Act) → IsAllowed d S w a → a ≡ reply_of d S w (call_of a)
  pub of_call : (w : ℕ) (c : Call) → call_of (reply_of d S w c) ≡ c
  pub may : (w : ℕ) (a : Act) → IsAllowed d S w a → MayCall d S w (call_of a)
