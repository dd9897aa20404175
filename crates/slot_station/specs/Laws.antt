-- The laws of stations and of cells, as the functions of module `laws` state them.
use Rattle.std.specs.Prelude.{◌≡◌, ◌≢◌, ◌↔◌, ℕ, ◌<◌, true, List, ◌∷◌, Option, Some, IsSome, IfSome}
use Rattle.slot_history.specs.declared.act.Act.{Act}
use Rattle.slot_history.specs.declared.act.Act.TheVariants.{TakeReturn, TakeChange}
use Rattle.slot_history.specs.declared.place.Held.{Held}
use Rattle.slot_history.specs.declared.place.Place.TheVariants.{Inside, Holding}
use Rattle.slot_history.specs.States.{HasCell, has_cell, slot_of}
use Rattle.slot_history.specs.Steps.{moved, state_after}
use Rattle.slot_history.specs.Calls.{Call, call_of}
use Rattle.slot_history.specs.Histories.{IsLegal, entry}
use Rattle.slot_history.specs.Numbers.{named_id}
use Rattle.slot_station.specs.declared.note.Note.{Note}
use Rattle.slot_station.specs.declared.reply.Claim.{Claim}
use Rattle.slot_station.specs.declared.reply.Leave.{Leave}
use Rattle.slot_station.specs.declared.reply.Look.{Look}
use Rattle.slot_station.specs.Cells.{Moment, Cell, CellOf, Caller, CellsAllow, NotesAllow}
use Rattle.slot_station.specs.Cells.{caller_then, after_call, kept_note, fresh_note}
use Rattle.slot_station.specs.Exchanges.{IsSeenAt, MayExchange, HoldsNoted, MayPut}
use Rattle.slot_station.specs.Exchanges.{cell_here, exchange_here, after_exchange, put_note}
use Rattle.slot_station.specs.Desks.{Seen, Makes, LeaderOwesNothing, OwnFits, NextFits}
use Rattle.slot_station.specs.Desks.{OwnCellSays, CellSays, own_place, own_ranges, own_total}
use Rattle.slot_station.specs.Desks.{Owns, totals_of, caller_of}
use Rattle.slot_station.specs.Replies.{look_act, claim_act, leave_act, SeesTaskSet, IsCutRange}
use Rattle.slot_station.specs.declared.token.Holder.{Holder}
use Rattle.slot_station.specs.Tokens.{IsHolder, HoldsAs}
use Rattle.slot_station.specs.Replies.{LiesPast, OwesTaskSet, NamesSlots}

-- what follows for a caller from the call that a worker made
pub record RepliesFollow {Sub : Type 0} (total : Sub → ℕ → Option ℕ) (O : Type 0) : Type 0 where
  pub place : (a : Act) (old new : Seen O Sub) → Makes total a old new
      → own_place new ≡ moved old.desk.shape a (own_place old)
  pub named : (a : Act) (old new : Seen O Sub) → Makes total a old new
      → (id : ℕ) → named_id a ≡ Some id → IsSome (totals_of total old id)
  pub sees : (reply : Look) (old new : Seen O Sub) → Makes total (look_act reply) old new
      → SeesTaskSet (totals_of total old) reply
  pub cut : (n : ℕ) (reply : Claim) (old new : Seen O Sub)
      → Makes total (claim_act n reply) old new → IsCutRange (own_total total old) n reply
  pub past : (n : ℕ) (reply : Claim) (old new : Seen O Sub)
      → Makes total (claim_act n reply) old new
      → (s id : ℕ) × (own_place old ≡ Inside s id) → LiesPast (own_ranges old) reply
  pub owes : (reply : Leave) (old new : Seen O Sub) → Makes total (leave_act reply) old new
      → OwesTaskSet (totals_of total old) reply
  pub coordinator : (reply : Leave) (old new : Seen O Sub)
      → Makes total (leave_act reply) old new → LeaderOwesNothing old reply
  pub returns : (part bits : ℕ) (old new : Seen O Sub) → Makes total (TakeReturn part bits) old new
      → NamesSlots old.desk.shape.slots part bits
  pub changes : (part bits : ℕ) (old new : Seen O Sub) → Makes total (TakeChange part bits) old new
      → NamesSlots old.desk.shape.slots part bits

-- A call that its worker's notes allow keeps what is known of each cell: what the notes before say
-- of it, those after the call say. Values of a cell meet `fits`, by its worker.
abbrev pub CellsGoOn : {B : Type 0} → (ℕ → ℕ → List (ℕ × ℕ) → B → Type 0) → Type 0
CellsGoOn {B = B} fits = (totals : ℕ → Option ℕ) (moment : Moment) (w : ℕ) (a : Act)
    → IsLegal moment.shape (entry w a ∷ moment.history)
    → NotesAllow totals (caller_then moment w) a
    → (cell : Cell B) → cell.worker < moment.shape.workers
    → CellOf (fits cell.worker) moment cell
    → CellOf (fits cell.worker) (after_call w a moment) cell

-- whether a worker's notes allow a call does not depend on its reply
abbrev pub RepliesAllowed : Type 0
RepliesAllowed = (totals : ℕ → Option ℕ) (caller : Caller) (call : Call) (a : Act)
    → call_of a ≡ call → CellsAllow totals caller call ↔ NotesAllow totals caller a

-- What an exchange of the cell of v does, by the station of a worker that may make it. The cell is
-- one of the object's and with the worker, which has none at another slot. The worker finds what
-- its note says. If the value that it puts fits, the cell is as the new note says. What is known of
-- the other cells stays.
pub record ExchangeKeeps {B Sub O : Type 0} (fits : Sub → ℕ → ℕ → List (ℕ × ℕ) → B → Type 0)
    (moment : Moment) (seen : Seen O Sub) (v : ℕ) : Type 0 where
  pub in_slots : slot_of (own_place seen) < moment.shape.slots
  pub in_workers : v < moment.shape.workers
  pub has : HasCell (state_after moment.shape moment.history) (slot_of (own_place seen)) v
      seen.desk.worker
  pub only : (s u : ℕ) → HasCell (state_after moment.shape moment.history) s u seen.desk.worker
      → s ≡ slot_of (own_place seen)
  pub found : (value : Option B) → CellOf (fits seen.desk.subject v) moment (cell_here seen v value)
      → HoldsNoted seen v fits value
  pub put : (value : Option B) → IfSome value (MayPut seen v fits)
      → (note : Note) → note ≡ put_note (own_place seen) value
      → CellOf (fits seen.desk.subject v) (after_exchange (exchange_here seen v note) moment)
      (cell_here seen v value)
  pub others : (note : Note) (cell : Cell B)
      → (cell.slot ≡ slot_of (own_place seen) → cell.worker ≢ v)
      → let of_worker : ℕ → List (ℕ × ℕ) → B → Type 0 = fits seen.desk.subject cell.worker in
      CellOf of_worker moment cell
      → CellOf of_worker (after_exchange (exchange_here seen v note) moment) cell

-- an exchange keeps what is known of each cell, whoever sees how much of the history
abbrev pub ExchangesGoOn : {B Sub : Type 0} → (Sub → ℕ → ℕ → List (ℕ × ℕ) → B → Type 0) → Type 0
    → Type 0
ExchangesGoOn {Sub = Sub} fits O = (moment : Moment) (seen : Seen O Sub) → IsSeenAt moment seen
    → (v : ℕ) → MayExchange (caller_of seen) v → ExchangeKeeps fits moment seen v

-- What is found and put by place, in the words of a station's two exchanges: of the own cell while
-- the worker is inside, and of each cell while it holds a slot.
pub record ExchangesSay {B Sub : Type 0} (fits : Sub → ℕ → ℕ → List (ℕ × ℕ) → B → Type 0)
    (O : Type 0) : Type 0 where
  pub own : (seen : Seen O Sub) → has_cell (own_place seen) ≡ true → (value : Option B)
      → let w = seen.desk.worker in
      (HoldsNoted seen w fits value → OwnCellSays fits seen value)
      × (IfSome value (OwnFits fits seen) → IfSome value (MayPut seen w fits))
      × (put_note (own_place seen) value ≡ kept_note value)
  pub held : (seen : Seen O Sub) (s : ℕ) (held : Held) → own_place seen ≡ Holding s held
      → (v : ℕ) (value : Option B)
      → (HoldsNoted seen v fits value → CellSays fits seen v value)
      × (IfSome value (NextFits fits seen v) → IfSome value (MayPut seen v fits))
      × (put_note (own_place seen) value ≡ fresh_note value)

-- a holder's token has the fields of what its worker holds
abbrev pub HoldersShow : Type 0 → Type 0 → Type 0
HoldersShow O Sub = (seen : Seen O Sub) (token : Holder)
    → Owns IsHolder seen token → Owns HoldsAs seen token
