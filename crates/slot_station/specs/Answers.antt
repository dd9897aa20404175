-- What calls answer, by the caller's place and what the slot holds.
use Rattle.std.specs.Prelude.{ℕ, ◌/◌, ◌%◌, Bool, true, false, cond, eqb, Option, Some, None}
use Rattle.slot_history.specs.declared.shape.Shape.{Shape}
use Rattle.slot_history.specs.declared.shape.TheConstants.{STAGES}
use Rattle.slot_history.specs.declared.place.Place.{Place}
use Rattle.slot_history.specs.States.{SlotState, slot_of, id_at, held_at, is_empty, slot_word}
use Rattle.slot_station.specs.declared.token.Announcer.{Announcer}
use Rattle.slot_station.specs.declared.token.Holder.{Holder}
use Rattle.slot_station.specs.declared.reply.Claim.{Claim}
use Rattle.slot_station.specs.declared.reply.Claim.TheVariants as claim
use Rattle.slot_station.specs.declared.reply.Shut.{Shut}
use Rattle.slot_station.specs.declared.reply.Shut.TheVariants as shut
use Rattle.slot_station.specs.declared.reply.Leave.{Leave}
use Rattle.slot_station.specs.declared.reply.Leave.TheVariants as leave
use Rattle.slot_station.specs.declared.reply.Mark.{Mark}
use Rattle.slot_station.specs.declared.reply.Mark.TheVariants as mark
use Rattle.slot_station.specs.declared.reply.Sweep.{Sweep}
use Rattle.slot_station.specs.declared.reply.Sweep.TheVariants as sweep
use Rattle.slot_station.specs.declared.reply.Pay.{Pay}
use Rattle.slot_station.specs.declared.reply.Pay.TheVariants as pay
use Rattle.slot_station.specs.declared.reply.Reserve.{Reserve}
use Rattle.slot_station.specs.declared.reply.Reserve.TheVariants as reserve
use Rattle.slot_station.specs.declared.reply.Admit.{Admit}
use Rattle.slot_station.specs.declared.reply.Admit.TheVariants as admit

-- of the worker w, which is at the place p
module _ (w : ℕ) (p : Place) where
  abbrev pub claim_of : Option (ℕ × ℕ) → Claim
  claim_of None = claim.Exhausted (record { worker = w; slot = slot_of p; id = id_at p })
  claim_of (Some r) = claim.Range r.0 r.1

  abbrev pub shut_of : Shape → Bool → Shut
  shut_of d true = shut.Won (record {
    worker = w;
    slot = slot_of p;
    id = id_at p;
    workers = d.workers;
    asked = 0;
    marked = 0;
  })
  shut_of d false = shut.Lost

  abbrev pub finaliser_of : Holder
  finaliser_of = record {
    worker = w;
    slot = slot_of p;
    query = Some (id_at p / STAGES);
    stage = id_at p % STAGES;
    again = true;
  }

  abbrev pub announcer_of : Shape → Announcer
  announcer_of d = record {
    worker = w;
    slot = slot_of p;
    workers = d.workers;
    told = 0;
    again = (held_at p).again;
  }

  -- where so many workers have to pay
  abbrev pub sweep_of : ℕ → Sweep
  sweep_of owing = cond (eqb owing 0) (sweep.Last finaliser_of) (sweep.Others owing)

  -- whether it is the last
  abbrev pub pay_of : Bool → Pay
  pay_of true = pay.Last finaliser_of
  pay_of false = pay.Done

-- of a worker that owes for the task set, or does not
abbrev pub leave_of : ℕ → ℕ → ℕ → Bool → Leave
leave_of w s id true = leave.Owe (record { worker = w; slot = s; id = id })
leave_of w s id false = leave.Left

abbrev pub mark_of : Bool → Mark
mark_of true = mark.Marked
mark_of false = mark.Missed

-- the holder that a worker becomes by a reservation
abbrev pub reserver_of : ℕ → ℕ → Holder
reserver_of w s = record { worker = w; slot = s; query = None; stage = 0; again = false }

abbrev pub reserve_of : ℕ → ℕ → SlotState → Reserve
reserve_of w s slot =
    cond (is_empty slot) (reserve.Got (reserver_of w s)) (reserve.Taken (slot_word slot))

-- where so many queries are admitted
abbrev pub admit_of : ℕ → ℕ → Admit
admit_of q admitted = cond (eqb admitted q) admit.Got (admit.Lost admitted)
