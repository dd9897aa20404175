-- The entry that a call with its reply makes, and what a caller needs of a reply's numbers.
use Rattle.std.specs.Prelude.{◌≡◌, ℕ, ◌+◌, ◌*◌, ◌<◌, ◌≤◌, min, List, All, Option, Some, IsSome}
use Rattle.std.specs.Prelude.{IsSomeAnd}
use Rattle.std.specs.Int.{bit_at}
use Rattle.slot_history.specs.declared.act.Act.{Act}
use Rattle.slot_history.specs.declared.act.Act.TheVariants as act
use Rattle.slot_station.specs.declared.token.Coordinator.{Coordinator}
use Rattle.slot_station.specs.declared.token.Holder.{Holder}
use Rattle.slot_station.specs.declared.reply.Look.{Look}
use Rattle.slot_station.specs.declared.reply.Look.TheVariants as look
use Rattle.slot_station.specs.declared.reply.Claim.{Claim}
use Rattle.slot_station.specs.declared.reply.Claim.TheVariants as claim
use Rattle.slot_station.specs.declared.reply.Shut.{Shut}
use Rattle.slot_station.specs.declared.reply.Shut.TheVariants as shut
use Rattle.slot_station.specs.declared.reply.Leave.{Leave}
use Rattle.slot_station.specs.declared.reply.Leave.TheVariants as leave
use Rattle.slot_station.specs.declared.reply.Mark.{Mark}
use Rattle.slot_station.specs.declared.reply.Mark.TheVariants as mark
use Rattle.slot_station.specs.declared.reply.Sweep.{Sweep}
use Rattle.slot_station.specs.declared.reply.Sweep.TheVariants as sweep
use Rattle.slot_station.specs.declared.reply.Pay.{Pay}
use Rattle.slot_station.specs.declared.reply.Pay.TheVariants as pay
use Rattle.slot_station.specs.declared.reply.Reserve.{Reserve}
use Rattle.slot_station.specs.declared.reply.Reserve.TheVariants as reserve
use Rattle.slot_station.specs.declared.reply.Admit.{Admit}
use Rattle.slot_station.specs.declared.reply.Admit.TheVariants as admit

-- ---- entries

abbrev pub look_act : Look → Act
look_act (look.Open id) = act.LookOpen id
look_act look.Invalid = act.LookInvalid
look_act look.Vacant = act.LookVacant

-- a claim of n tuples
abbrev pub claim_act : ℕ → Claim → Act
claim_act n (claim.Range from to) = act.ClaimRange n from to
claim_act n (claim.Exhausted token) = act.ClaimUsed n

abbrev pub shut_act : Shut → Act
shut_act (shut.Won token) = act.ShutWon
shut_act shut.Lost = act.ShutLost

abbrev pub leave_act : Leave → Act
leave_act leave.Left = act.LeaveLeft
leave_act (leave.Owe token) = act.LeaveOwe token.id

abbrev pub mark_act : Mark → Act
mark_act mark.Marked = act.MarkMarked
mark_act mark.Missed = act.MarkMissed

abbrev pub sweep_act : Sweep → Act
sweep_act (sweep.Last token) = act.SweepLast
sweep_act (sweep.Others owing) = act.SweepOthers owing

abbrev pub pay_act : Pay → Act
pay_act (pay.Last token) = act.PayLast
pay_act pay.Done = act.PayDone

-- a reservation of the slot s
abbrev pub reserve_act : ℕ → Reserve → Act
reserve_act s (reserve.Got token) = act.ReserveGot s
reserve_act s (reserve.Taken word) = act.ReserveTaken s word

-- an admission of the query q
abbrev pub admit_act : ℕ → Admit → Act
admit_act q admit.Got = act.AdmitGot q
admit_act q (admit.Lost now) = act.AdmitLost q now

-- ---- numbers

-- a task set that was seen is one of the subject; `total` gives the subject's totals
abbrev pub SeesTaskSet : (ℕ → Option ℕ) → Look → Type 0
SeesTaskSet total (look.Open id) = IsSome (total id)
SeesTaskSet total _ = Unit {0}

-- a range is not empty, and is cut at the task set's total; of no range nothing is said
abbrev pub IsCutRange : Option ℕ → ℕ → Claim → Type 0
IsCutRange total n (claim.Range from to) =
    IsSomeAnd total (λ whole. (from < whole) × (to ≡ min whole (from + n)))
IsCutRange total n (claim.Exhausted token) = Unit {0}

-- a range begins where each of these ended, or later
abbrev pub LiesPast : List (ℕ × ℕ) → Claim → Type 0
LiesPast ranges (claim.Range from to) = All (λ (r : ℕ × ℕ). r.1 ≤ from) ranges
LiesPast ranges (claim.Exhausted token) = Unit {0}

-- a debt is for a task set of the subject
abbrev pub OwesTaskSet : (ℕ → Option ℕ) → Leave → Type 0
OwesTaskSet total leave.Left = Unit {0}
OwesTaskSet total (leave.Owe token) = IsSome (total token.id)

-- how many more a mark counts
abbrev pub marked_more : Mark → ℕ
marked_more mark.Marked = 1
marked_more mark.Missed = 0

-- what a mark makes of the coordinator
abbrev pub marked_coordinator : Mark → Coordinator → Coordinator
marked_coordinator reply token =
    record token { asked = token.asked + 1; marked = token.marked + marked_more reply }

-- what the admission makes of the holder
abbrev pub admitted_holder : ℕ → Admit → Holder → Holder
admitted_holder q admit.Got token = record token { query = Some q }
admitted_holder q (admit.Lost now) token = token

-- a mask names slots of the object alone
abbrev pub NamesSlots : ℕ → ℕ → ℕ → Type 0
NamesSlots slots part bits = (k : ℕ) → bit_at bits k ≡ 1 → part * 64 + k < slots
