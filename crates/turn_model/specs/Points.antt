-- The points of a turn: which call comes next, as a function of the worker's moves.
use Rattle.std.specs.Prelude.{ℕ, ◌+◌, ◌-◌, ◌/◌, Bool, true, false, cond, eqb, ltb}
use Rattle.std.specs.Prelude.{leb, ◌&&◌, List, [], ◌∷◌, Option, Some, None, unwrap_or}
use Rattle.slot_history.specs.declared.shape.TheConstants.{STAGES, PARTS}
use Rattle.slot_history.specs.declared.act.Act.{Act}
use Rattle.slot_history.specs.declared.act.Act.TheVariants.{Enter, LookOpen, LookInvalid}
use Rattle.slot_history.specs.declared.act.Act.TheVariants.{LookVacant, ClaimRange, ClaimUsed}
use Rattle.slot_history.specs.declared.act.Act.TheVariants.{ShutWon, ShutLost, LeaveLeft, LeaveOwe}
use Rattle.slot_history.specs.declared.act.Act.TheVariants.{PayLast, PayDone, MarkMarked}
use Rattle.slot_history.specs.declared.act.Act.TheVariants.{MarkMissed, SweepLast, SweepOthers}
use Rattle.slot_history.specs.declared.act.Act.TheVariants.{ReserveGot, ReserveTaken, AdmitGot}
use Rattle.slot_history.specs.declared.act.Act.TheVariants.{AdmitLost, Arrivals, Finished, NoteDone}
use Rattle.slot_history.specs.declared.act.Act.TheVariants.{SetTotal, Install, Release, Announce}
use Rattle.slot_history.specs.declared.act.Act.TheVariants.{TakeReturn, TakeChange}
use Rattle.slot_history.specs.declared.place.Held.{Held}
use Rattle.slot_history.specs.declared.place.Place.{Place}
use Rattle.slot_history.specs.declared.place.Place.TheVariants.{Asking, Announcing}
use Rattle.slot_history.specs.States.{held_at}
use Rattle.slot_history.specs.Steps.{moved}
use Rattle.stride_set.specs.Strides.{choice_of}
use Rattle.slot_station.specs.Desks.{Desk}
use Rattle.turn_model.specs.Workloads.{Workload, sets_of}
use Rattle.turn_model.specs.declared.turn.Turn.{Turn}
use Rattle.turn_model.specs.declared.turn.Turn.TheVariants.{Acted, Idle, Over}
use Rattle.turn_model.specs.Moves.{Move, Made, Exchanged}
use Rattle.turn_model.specs.Learned.{place_by, lets_in, strides_by, finished_by}

-- Slots, task sets and tokens are those of the worker's place.
pub data Point : Type 0 where
  -- no turn is under way; the last one ended so
  Ready : Turn → Point
  -- return notices of this part are taken, from part 1 on, and change notices
  Return : ℕ → Point
  Change : ℕ → Point
  -- `finished`, `arrivals`
  Count : Point
  Arrive : Point
  -- a slot, or one after it, is reserved for the query that is due, and the query is admitted
  Scan : ℕ → Point
  Admit : Point
  -- so many cells have the bench of the next task set; before the first of a query that was just
  -- admitted, the query may be given up for want of memory
  Fill : ℕ → Point
  -- the next task set has its total; it is installed, and workers are told
  Opens : Point
  Tells : Point
  FreeIt : Point
  -- the chosen slot is entered and looked at, and left early if there is nothing to do
  Enters : ℕ → Point
  Look : Point
  Early : Point
  -- the own bench is taken, one range is claimed for it, and it is put back
  Take : Point
  Claim : Point
  Shut : Point
  Back : Point
  Leave : Point
  -- other workers are asked whether they are at the slot
  Ask : Point
  Sweep : Point
  Pay : Point
  -- so many cells were fetched; after the last one the task set is noted as done
  Fetch : ℕ → Point

abbrev pub has_ended : Point → Bool
has_ended (Ready t) = true
has_ended _ = false

-- how a turn ends that finds no slot active: by the task sets done and those of the plan
abbrev pub ended_as : ℕ → ℕ → Turn
ended_as finished sets = cond (ltb finished sets) Idle Over

abbrev pub picked : Option ℕ → Turn → Point
picked None turn = Ready turn
picked (Some s) turn = Enters s

-- whoever shut a task set asks all other workers
abbrev pub asked : ℕ → Place → Point
asked workers (Asking s id n marked) = cond (ltb (n + 1) workers) Ask Sweep
asked workers p = Ready Acted

-- whoever told all workers is free
abbrev pub told : Place → Point
told (Announcing s again n) = Tells
told p = Ready Acted

-- the stages that the query of a holding has, and those from the stage of the holding on
abbrev pub stages_held : Workload → Held → ℕ
stages_held load h = load.stages (unwrap_or h.query 0)

abbrev pub rest_of : Workload → Held → ℕ
rest_of load h = stages_held load h - h.stage

-- only this stage was noted, and there is a next one
abbrev pub goes_on : Workload → Held → ℕ → Bool
goes_on load h noted = eqb noted 1 && ltb (h.stage + 1) (stages_held load h)

-- the point after an exchange of a cell
abbrev pub exchanged : Point → Point
exchanged (Fill v) = Fill (v + 1)
exchanged Take = Claim
exchanged Back = Leave
exchanged (Fetch v) = Fetch (v + 1)
exchanged x = x

module _ (D : Desk Workload) where
  -- query q, which is the next to arrive, is due once so many task sets are done
  abbrev pub is_due : ℕ → ℕ → Bool
  is_due q finished = ltb q D.shape.queries && leb (D.subject.after q) finished

  -- if no slot is got: the visit of the choice, or the end of the turn
  abbrev pub pick : List Move → Point
  pick ms = picked (choice_of (strides_by D ms))
      (ended_as (finished_by D ms) (sets_of D.shape D.subject))

  -- the point after a call that follows these moves and was made at this point
  abbrev pub after : List Move → Point → Act → Point
  after ms (Ready turn) (TakeReturn part bits) = cond (ltb 1 PARTS) (Return 1) (Change 0)
  after ms (Return k) (TakeReturn part bits) = cond (ltb (k + 1) PARTS) (Return (k + 1)) (Change 0)
  after ms (Change k) (TakeChange part bits) = cond (ltb (k + 1) PARTS) (Change (k + 1)) Count
  after ms Count (Finished n) = Arrive
  after ms Arrive (Arrivals n) = cond (is_due n (finished_by D ms)) (Scan 0) (pick ms)
  after ms (Scan s) (ReserveGot k) = Admit
  after ms (Scan s) (ReserveTaken k word) =
      cond (ltb (s + 1) D.shape.slots) (Scan (s + 1)) (pick ms)
  after ms Admit (AdmitGot q) = Fill 0
  after ms Admit (AdmitLost q now) = FreeIt
  after ms (Fill v) (SetTotal total) = Opens
  after ms (Fill v) (NoteDone n) = FreeIt
  after ms Opens (Install id) = Tells
  after ms Tells Announce = told (moved D.shape Announce (place_by D ms))
  after ms FreeIt Release = Ready Acted
  after ms (Enters s) (Enter k) = Look
  after ms Look (LookOpen id) = cond (lets_in D ms (id / STAGES)) Take Early
  after ms Look LookInvalid = Early
  after ms Look LookVacant = Early
  after ms Early LeaveLeft = Ready Acted
  after ms Early (LeaveOwe id) = Pay
  after ms Claim (ClaimRange n from to) = Back
  after ms Claim (ClaimUsed n) = Shut
  after ms Shut ShutWon = Back
  after ms Shut ShutLost = Back
  after ms Leave LeaveLeft = asked D.shape.workers (moved D.shape LeaveLeft (place_by D ms))
  after ms Leave (LeaveOwe id) = Pay
  after ms Ask MarkMarked = asked D.shape.workers (moved D.shape MarkMarked (place_by D ms))
  after ms Ask MarkMissed = asked D.shape.workers (moved D.shape MarkMissed (place_by D ms))
  after ms Sweep SweepLast = Fetch 0
  after ms Sweep (SweepOthers n) = Ready Acted
  after ms Pay PayLast = Fetch 0
  after ms Pay PayDone = Ready Acted
  after ms (Fetch v) (NoteDone n) =
      cond (goes_on D.subject (held_at (place_by D ms)) n) (Fill 0) FreeIt
  after ms x _ = x

  -- the point after all moves
  abbrev pub point_by : List Move → Point
  point_by [] = Ready Acted
  point_by (Made a t ∷ ms) = after ms (point_by ms) a
  point_by (Exchanged ∷ ms) = exchanged (point_by ms)
