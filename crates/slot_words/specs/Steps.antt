-- The one atomic step of each call: the word that it is on, what it makes of it, and what it
-- answers.
use Rattle.std.specs.Prelude.{ℕ, ◌+◌, ◌-◌, ◌/◌, ◌%◌, ◌^◌, true, false, cond, eqb, ltb, min, bit_or}
use prog.Atomic.{either}
use Rattle.slot_history.specs.declared.act.Act.{Act}
use Rattle.slot_history.specs.declared.act.Act.TheVariants.{Enter, LookOpen, LookInvalid}
use Rattle.slot_history.specs.declared.act.Act.TheVariants.{LookVacant, ClaimRange, ClaimUsed}
use Rattle.slot_history.specs.declared.act.Act.TheVariants.{ShutWon, ShutLost, LeaveLeft, LeaveOwe}
use Rattle.slot_history.specs.declared.act.Act.TheVariants.{PayLast, PayDone, MarkMarked}
use Rattle.slot_history.specs.declared.act.Act.TheVariants.{MarkMissed, SweepLast, SweepOthers}
use Rattle.slot_history.specs.declared.act.Act.TheVariants.{ReserveGot, ReserveTaken, AdmitGot}
use Rattle.slot_history.specs.declared.act.Act.TheVariants.{AdmitLost, Arrivals, Finished, NoteDone}
use Rattle.slot_history.specs.declared.act.Act.TheVariants.{SetTotal, Install, Release, Announce}
use Rattle.slot_history.specs.declared.act.Act.TheVariants.{TakeReturn, TakeChange}
use Rattle.slot_history.specs.declared.place.Place.{Place}
use Rattle.slot_history.specs.declared.place.Place.TheVariants.{Asking, Announcing}
use Rattle.slot_history.specs.States.{slot_of, id_at}
use Rattle.slot_history.specs.Calls.{Call, Entering, Looking, Claiming, Shutting, Leaving, Paying}
use Rattle.slot_history.specs.Calls.{MarkingNext, Sweeping, Reserving, Admitting, AskingArrivals}
use Rattle.slot_history.specs.Calls.{AskingFinished, NotingDone, SettingTotal, Installing}
use Rattle.slot_history.specs.Calls.{Releasing, AnnouncingNext, TakingReturn, TakingChange}
use Rattle.slot_history.specs.Allowed.{bit_of}
use Rattle.slot_history.specs.Table.{nth_other}
use Rattle.slot_words.specs.declared.address.Address.{Address}
use Rattle.slot_words.specs.declared.address.Address.TheVariants.{ArrivalsAt, FinishedAt, StateOf}
use Rattle.slot_words.specs.declared.address.Address.TheVariants.{CursorOf, CounterOf, WorkerOf}
use Rattle.slot_words.specs.declared.address.Address.TheVariants.{ReturnOf, ChangeOf}
use Rattle.slot_words.specs.Encodings.{open_word, kind_in, id_in, at_word, marked, mark_in}
use Rattle.slot_words.specs.Encodings.{cursor_word, total_in, cursor_in, zero_count}

-- ---- atomic steps on a word of 64 bits

abbrev pub added : ℕ → ℕ → ℕ
added n word = (word + n) % 2 ^ 64

abbrev pub one_less : ℕ → ℕ
one_less word = (word + (2 ^ 64 - 1)) % 2 ^ 64

-- a compare and exchange
abbrev pub compare_exchanged : ℕ → ℕ → ℕ → ℕ
compare_exchanged old new word = either (eqb word old) new word

-- ---- what a call reads in its word

abbrev pub look_answer : ℕ → Act
look_answer word = cond (eqb (kind_in word) 2) (LookOpen (id_in word))
    (cond (eqb (kind_in word) 3) LookInvalid LookVacant)

-- a claim of n tuples, by the total and the cursor
abbrev pub claim_answer_of : ℕ → ℕ → ℕ → Act
claim_answer_of n total cursor =
    cond (ltb cursor total) (ClaimRange n cursor (min total (cursor + n))) (ClaimUsed n)

abbrev pub claim_answer : ℕ → ℕ → Act
claim_answer n word = claim_answer_of n (total_in word) (cursor_in word)

abbrev pub shut_answer : ℕ → Act
shut_answer word = cond (eqb (kind_in word) 2) ShutWon ShutLost

abbrev pub leave_answer : ℕ → Act
leave_answer word = cond (ltb word 512) LeaveLeft (LeaveOwe (mark_in word))

abbrev pub pay_answer : ℕ → Act
pay_answer word = cond (eqb word (zero_count + 1)) PayLast PayDone

-- of a worker that is asked whether it is at the slot s
abbrev pub mark_answer : ℕ → ℕ → Act
mark_answer s word = cond (eqb word (at_word s)) MarkMarked MarkMissed

-- after so many marks
abbrev pub sweep_answer : ℕ → ℕ → Act
sweep_answer marks word =
    cond (eqb (added marks word) zero_count) SweepLast (SweepOthers (added marks word - zero_count))

abbrev pub reserve_answer : ℕ → ℕ → Act
reserve_answer s word = cond (eqb word 0) (ReserveGot s) (ReserveTaken s word)

abbrev pub admit_answer : ℕ → ℕ → Act
admit_answer q word = cond (eqb word q) (AdmitGot q) (AdmitLost q word)

-- ---- by the caller's place

-- how many others a coordinator has asked, and how many of them it marked
abbrev pub asked_at : Place → ℕ
asked_at (Asking s id asked marks) = asked
asked_at _ = 0

abbrev pub marked_at : Place → ℕ
marked_at (Asking s id asked marks) = marks
marked_at _ = 0

-- the mask word that an announcer writes: of returns after a finalisation, else of changes
abbrev pub mask_told : Place → Address
mask_told (Announcing s true told) = ReturnOf told (s / 64)
mask_told (Announcing s false told) = ChangeOf told (s / 64)
mask_told _ = ArrivalsAt

-- the word that the call of w, at the place p, is on
abbrev pub address_of : ℕ → Call → Place → Address
address_of w (Entering s) p = WorkerOf w
address_of w Looking p = StateOf (slot_of p)
address_of w (Claiming n) p = CursorOf (slot_of p)
address_of w Shutting p = StateOf (slot_of p)
address_of w Leaving p = WorkerOf w
address_of w Paying p = CounterOf (slot_of p)
address_of w MarkingNext p = WorkerOf (nth_other w (asked_at p))
address_of w Sweeping p = CounterOf (slot_of p)
address_of w (Reserving s) p = StateOf s
address_of w (Admitting q) p = ArrivalsAt
address_of w AskingArrivals p = ArrivalsAt
address_of w AskingFinished p = FinishedAt
address_of w (NotingDone n) p = FinishedAt
address_of w (SettingTotal total) p = CursorOf (slot_of p)
address_of w (Installing id) p = StateOf (slot_of p)
address_of w Releasing p = StateOf (slot_of p)
address_of w AnnouncingNext p = mask_told p
address_of w (TakingReturn part) p = ReturnOf w part
address_of w (TakingChange part) p = ChangeOf w part

-- what the step makes of its word
abbrev pub change_of : Call → Place → ℕ → ℕ
change_of (Entering s) p word = at_word s
change_of Looking p word = word
change_of (Claiming n) p word = added n word
change_of Shutting p word = bit_or word 1
change_of Leaving p word = 0
change_of Paying p word = one_less word
change_of MarkingNext p word =
    let there = at_word (slot_of p) in compare_exchanged there (marked there (id_at p)) word
change_of Sweeping p word = added (marked_at p) word
change_of (Reserving s) p word = compare_exchanged 0 1 word
change_of (Admitting q) p word = compare_exchanged q (q + 1) word
change_of AskingArrivals p word = word
change_of AskingFinished p word = word
change_of (NotingDone n) p word = added n word
change_of (SettingTotal total) p word = cursor_word total 0
change_of (Installing id) p word = open_word id
change_of Releasing p word = 0
change_of AnnouncingNext p word = bit_or word (bit_of (slot_of p))
change_of (TakingReturn part) p word = 0
change_of (TakingChange part) p word = 0

-- the call with the answer that it reads in its word
abbrev pub answer_of : Call → Place → ℕ → Act
answer_of (Entering s) p word = Enter s
answer_of Looking p word = look_answer word
answer_of (Claiming n) p word = claim_answer n word
answer_of Shutting p word = shut_answer word
answer_of Leaving p word = leave_answer word
answer_of Paying p word = pay_answer word
answer_of MarkingNext p word = mark_answer (slot_of p) word
answer_of Sweeping p word = sweep_answer (marked_at p) word
answer_of (Reserving s) p word = reserve_answer s word
answer_of (Admitting q) p word = admit_answer q word
answer_of AskingArrivals p word = Arrivals word
answer_of AskingFinished p word = Finished word
answer_of (NotingDone n) p word = NoteDone n
answer_of (SettingTotal total) p word = SetTotal total
answer_of (Installing id) p word = Install id
answer_of Releasing p word = Release
answer_of AnnouncingNext p word = Announce
answer_of (TakingReturn part) p word = TakeReturn part word
answer_of (TakingChange part) p word = TakeChange part word
