-- Worked examples: which answers the definitions give to calls, in order of time.
use Rattle.std.specs.Prelude.{◌≡◌, ℕ, List, [], ◌∷◌, ◌++◌}
use Rattle.slot_history.specs.declared.shape.Shape.{Shape}
use Rattle.slot_history.specs.declared.act.Act.{Act}
use Rattle.slot_history.specs.declared.act.Act.TheVariants.{Enter, LookOpen, LookInvalid}
use Rattle.slot_history.specs.declared.act.Act.TheVariants.{LookVacant, ClaimRange, ClaimUsed}
use Rattle.slot_history.specs.declared.act.Act.TheVariants.{ShutWon, LeaveLeft, LeaveOwe, PayLast}
use Rattle.slot_history.specs.declared.act.Act.TheVariants.{PayDone, MarkMarked, MarkMissed}
use Rattle.slot_history.specs.declared.act.Act.TheVariants.{SweepLast, SweepOthers, ReserveGot}
use Rattle.slot_history.specs.declared.act.Act.TheVariants.{ReserveTaken, AdmitGot, Arrivals}
use Rattle.slot_history.specs.declared.act.Act.TheVariants.{NoteDone, SetTotal, Install, Release}
use Rattle.slot_history.specs.declared.act.Act.TheVariants.{Announce, TakeReturn, TakeChange}
use Rattle.slot_history.specs.States.{ObjectState, opening}
use Rattle.slot_history.specs.Steps.{next}
use Rattle.slot_history.specs.Calls.{Call, Entering, Looking, Claiming, Shutting, Leaving, Paying}
use Rattle.slot_history.specs.Calls.{MarkingNext, Sweeping, Reserving, Admitting, AskingArrivals}
use Rattle.slot_history.specs.Calls.{NotingDone, SettingTotal, Installing, Releasing}
use Rattle.slot_history.specs.Calls.{AnnouncingNext, TakingReturn, TakingChange, reply_of}

-- the answers to calls, each with its worker, from a state on
abbrev pub answers_from : Shape → ObjectState → List (ℕ × Call) → List Act
answers_from d S [] = []
answers_from d S (call ∷ calls) = let answer = reply_of d S call.0 call.1 in
    answer ∷ answers_from d (next d S call.0 answer) calls

-- the answers of an object with so many workers, one slot and two queries
abbrev pub answers_of : ℕ → List (ℕ × Call) → List Act
answers_of workers calls = answers_from
    (record { workers = workers; slots = 1; queries = 2 }) opening calls

-- worker 0 opens slot 0 for the first stage of query 0, without tuples, and tells nobody yet
abbrev opened_calls : List (ℕ × Call)
opened_calls = (0, Reserving 0) ∷ (0, Admitting 0) ∷ (0, SettingTotal 0) ∷ (0, Installing 0) ∷ []

abbrev opened_answers : List Act
opened_answers = ReserveGot 0 ∷ AdmitGot 0 ∷ SetTotal 0 ∷ Install 0 ∷ []

-- of two workers, worker 0 opens the slot and tells both
abbrev pair_calls : List (ℕ × Call)
pair_calls = opened_calls ++ ((0, AnnouncingNext) ∷ (0, AnnouncingNext) ∷ [])

abbrev pair_answers : List Act
pair_answers = opened_answers ++ (Announce ∷ Announce ∷ [])

-- a worker that was marked pays before the sweep, and the sweep is the last
abbrev pub PaysBeforeSweep : Type 0
PaysBeforeSweep =
    answers_of 2 (pair_calls ++ ((0, Entering 0) ∷ (0, Looking) ∷ (0, Claiming 16) ∷ (1, Entering 0)
    ∷ (0, Shutting) ∷ (0, Leaving) ∷ (0, MarkingNext) ∷ (1, Looking) ∷ (1, Leaving) ∷ (1, Paying)
    ∷ (0, Sweeping) ∷ []))
    ≡ pair_answers ++ (Enter 0 ∷ LookOpen 0 ∷ ClaimUsed 16 ∷ Enter 0 ∷ ShutWon ∷ LeaveLeft
    ∷ MarkMarked ∷ LookInvalid ∷ LeaveOwe 0 ∷ PayDone ∷ SweepLast ∷ [])

-- two workers do so
abbrev pub BothPayBeforeSweep : Type 0
BothPayBeforeSweep =
    answers_of 3 (opened_calls ++ ((0, AnnouncingNext) ∷ (0, AnnouncingNext) ∷ (0, AnnouncingNext)
    ∷ (0, Entering 0) ∷ (0, Looking) ∷ (0, Claiming 16) ∷ (1, Entering 0) ∷ (2, Entering 0)
    ∷ (0, Shutting) ∷ (0, Leaving) ∷ (0, MarkingNext) ∷ (0, MarkingNext) ∷ (1, Looking)
    ∷ (2, Looking) ∷ (1, Leaving) ∷ (1, Paying) ∷ (2, Leaving) ∷ (2, Paying) ∷ (0, Sweeping) ∷ []))
    ≡ opened_answers ++ (Announce ∷ Announce ∷ Announce ∷ Enter 0 ∷ LookOpen 0 ∷ ClaimUsed 16
    ∷ Enter 0 ∷ Enter 0 ∷ ShutWon ∷ LeaveLeft ∷ MarkMarked ∷ MarkMarked ∷ LookInvalid ∷ LookInvalid
    ∷ LeaveOwe 0 ∷ PayDone ∷ LeaveOwe 0 ∷ PayDone ∷ SweepLast ∷ [])

-- a worker that looked before the task set was installed is marked for it, learns the id from its
-- leave, and pays last
abbrev pub StrayPaysLast : Type 0
StrayPaysLast =
    answers_of 2 ((1, Entering 0) ∷ (1, Looking) ∷ (pair_calls ++ ((0, Entering 0) ∷ (0, Looking)
    ∷ (0, Claiming 16) ∷ (0, Shutting) ∷ (0, Leaving) ∷ (0, MarkingNext) ∷ (0, Sweeping)
    ∷ (1, Leaving) ∷ (1, Paying) ∷ (1, NotingDone 1) ∷ (1, Releasing) ∷ [])))
    ≡ Enter 0 ∷ LookVacant ∷ (pair_answers ++ (Enter 0 ∷ LookOpen 0 ∷ ClaimUsed 16 ∷ ShutWon
    ∷ LeaveLeft ∷ MarkMarked ∷ SweepOthers 1 ∷ LeaveOwe 0 ∷ PayLast ∷ NoteDone 1 ∷ Release ∷ []))

-- a slot that is reserved or open is taken
abbrev pub SlotIsTaken : Type 0
SlotIsTaken =
    answers_of 2 ((0, Reserving 0) ∷ (1, Reserving 0) ∷ (0, Admitting 0) ∷ (0, SettingTotal 7)
    ∷ (0, Installing 0) ∷ (1, Reserving 0) ∷ [])
    ≡ ReserveGot 0 ∷ ReserveTaken 0 1 ∷ AdmitGot 0 ∷ SetTotal 7 ∷ Install 0 ∷ ReserveTaken 0 6 ∷ []

-- a slot is filled again while a worker has entered it and not looked: it sees the new task set,
-- and its claim is cut
abbrev pub SlotIsFilledAgain : Type 0
SlotIsFilledAgain =
    answers_of 2 (pair_calls ++ ((0, Entering 0) ∷ (0, Looking) ∷ (0, Claiming 16) ∷ (0, Shutting)
    ∷ (0, Leaving) ∷ (0, MarkingNext) ∷ (1, Entering 0) ∷ (0, Sweeping) ∷ (0, NotingDone 1)
    ∷ (0, Releasing) ∷ (0, Reserving 0) ∷ (0, Admitting 1) ∷ (0, SettingTotal 5) ∷ (0, Installing 8)
    ∷ (1, Looking) ∷ (1, Claiming 16) ∷ []))
    ≡ pair_answers ++ (Enter 0 ∷ LookOpen 0 ∷ ClaimUsed 16 ∷ ShutWon ∷ LeaveLeft ∷ MarkMissed
    ∷ Enter 0 ∷ SweepLast ∷ NoteDone 1 ∷ Release ∷ ReserveGot 0 ∷ AdmitGot 1 ∷ SetTotal 5
    ∷ Install 8 ∷ LookOpen 8 ∷ ClaimRange 16 0 5 ∷ [])

-- A worker takes the return notice of a slot whose change notice is still to come: the slot's
-- second query is announced by worker 0, and its second stage by worker 1, which is faster.
abbrev pub NoticesCross : Type 0
NoticesCross =
    answers_of 3 (opened_calls ++ ((0, AnnouncingNext) ∷ (0, AnnouncingNext) ∷ (0, AnnouncingNext)
    ∷ (2, TakingChange 0) ∷ (2, Entering 0) ∷ (2, Looking) ∷ (2, Claiming 16) ∷ (2, Shutting)
    ∷ (2, Leaving) ∷ (2, MarkingNext) ∷ (2, MarkingNext) ∷ (2, Sweeping) ∷ (2, NotingDone 1)
    ∷ (2, Releasing) ∷ (0, Reserving 0) ∷ (0, Admitting 1) ∷ (0, SettingTotal 0) ∷ (0, Installing 8)
    ∷ (0, AnnouncingNext) ∷ (0, AnnouncingNext) ∷ (1, TakingChange 0) ∷ (1, Entering 0)
    ∷ (1, Looking) ∷ (1, Claiming 16) ∷ (1, Shutting) ∷ (1, Leaving) ∷ (1, MarkingNext)
    ∷ (1, MarkingNext) ∷ (1, Sweeping) ∷ (1, NotingDone 1) ∷ (1, SettingTotal 0) ∷ (1, Installing 9)
    ∷ (1, AnnouncingNext) ∷ (1, AnnouncingNext) ∷ (1, AnnouncingNext) ∷ (2, TakingReturn 0)
    ∷ (2, TakingChange 0) ∷ (2, Entering 0) ∷ (2, Looking) ∷ (2, Leaving) ∷ (0, AnnouncingNext)
    ∷ (2, TakingChange 0) ∷ (2, AskingArrivals) ∷ []))
    ≡ opened_answers ++ (Announce ∷ Announce ∷ Announce ∷ TakeChange 0 1 ∷ Enter 0 ∷ LookOpen 0
    ∷ ClaimUsed 16 ∷ ShutWon ∷ LeaveLeft ∷ MarkMissed ∷ MarkMissed ∷ SweepLast ∷ NoteDone 1
    ∷ Release ∷ ReserveGot 0 ∷ AdmitGot 1 ∷ SetTotal 0 ∷ Install 8 ∷ Announce ∷ Announce
    ∷ TakeChange 0 1 ∷ Enter 0 ∷ LookOpen 8 ∷ ClaimUsed 16 ∷ ShutWon ∷ LeaveLeft ∷ MarkMissed
    ∷ MarkMissed ∷ SweepLast ∷ NoteDone 1 ∷ SetTotal 0 ∷ Install 9 ∷ Announce ∷ Announce ∷ Announce
    ∷ TakeReturn 0 1 ∷ TakeChange 0 0 ∷ Enter 0 ∷ LookOpen 9 ∷ LeaveLeft ∷ Announce ∷ TakeChange 0 1
    ∷ Arrivals 2 ∷ [])
