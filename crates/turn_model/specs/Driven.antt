-- Which moves a worker may make, and the turns that they are.
use Rattle.std.specs.Prelude.{◌≡◌, ◌⊎◌, ℕ, ◌<◌, true, false, List, [], ◌∷◌, ◌++◌, Some, unwrap_or}
use Rattle.slot_history.specs.declared.act.Act.{Act}
use Rattle.slot_history.specs.declared.act.Act.TheVariants.{Enter, LookOpen, LookInvalid}
use Rattle.slot_history.specs.declared.act.Act.TheVariants.{LookVacant, ClaimRange, ClaimUsed}
use Rattle.slot_history.specs.declared.act.Act.TheVariants.{ShutWon, ShutLost, LeaveLeft, LeaveOwe}
use Rattle.slot_history.specs.declared.act.Act.TheVariants.{PayLast, PayDone, MarkMarked}
use Rattle.slot_history.specs.declared.act.Act.TheVariants.{MarkMissed, SweepLast, SweepOthers}
use Rattle.slot_history.specs.declared.act.Act.TheVariants.{ReserveGot, ReserveTaken, AdmitGot}
use Rattle.slot_history.specs.declared.act.Act.TheVariants.{AdmitLost, Arrivals, Finished, NoteDone}
use Rattle.slot_history.specs.declared.act.Act.TheVariants.{SetTotal, Install, Release, Announce}
use Rattle.slot_history.specs.declared.act.Act.TheVariants.{TakeReturn, TakeChange}
use Rattle.slot_history.specs.declared.place.Held.{Held}
use Rattle.slot_history.specs.States.{held_at, next_id}
use Rattle.morsel_size.specs.Sizing.{size_of}
use Rattle.slot_station.specs.Desks.{Desk}
use Rattle.turn_model.specs.Workloads.{Workload}
use Rattle.turn_model.specs.declared.turn.Turn.{Turn}
use Rattle.turn_model.specs.Moves.{Move, Made, Exchanged}
use Rattle.turn_model.specs.Learned.{place_by, task_by, taken_by, last_end, arrived_by}
use Rattle.turn_model.specs.Points.{Point, Ready, Return, Change, Count, Arrive, Scan, Admit}
use Rattle.turn_model.specs.Points.{Fill, Opens, Tells, FreeIt, Enters, Look, Early, Take}
use Rattle.turn_model.specs.Points.{Claim, Shut, Back, Leave, Ask, Sweep, Pay, Fetch}
use Rattle.turn_model.specs.Points.{has_ended, rest_of, point_by}

module _ (D : Desk Workload) where
  -- the size of the next claim of the task set with which the worker is inside
  abbrev pub size_by : List Move → ℕ
  size_by ms = let id = task_by D ms in size_of D.shape.workers (taken_by D id ms)
      (unwrap_or (D.subject.total id) 0) (last_end D id ms)

  -- what the worker holds
  abbrev pub held_by : List Move → Held
  held_by ms = held_at (place_by D ms)

  -- The query whose slot is held is given up for want of memory: all its stages from this one on
  -- are noted, of which none was noted before.
  pub record GivesUp (ms : List Move) (noted : ℕ) : Type 0 where
    pub all : noted ≡ rest_of D.subject (held_by ms)
    pub none : (held_by ms).noted ≡ 0

  -- At this point, after these moves, the worker makes this call. Which reply it gets is the
  -- object's.
  abbrev pub MayCall : List Move → Point → Act → Type 0
  MayCall ms (Ready turn) (TakeReturn part bits) = part ≡ 0
  MayCall ms (Return k) (TakeReturn part bits) = part ≡ k
  MayCall ms (Change k) (TakeChange part bits) = part ≡ k
  MayCall ms Count (Finished n) = Unit {0}
  MayCall ms Arrive (Arrivals n) = Unit {0}
  MayCall ms (Scan s) (ReserveGot k) = k ≡ s
  MayCall ms (Scan s) (ReserveTaken k word) = k ≡ s
  MayCall ms Admit (AdmitGot q) = q ≡ arrived_by D ms
  MayCall ms Admit (AdmitLost q now) = q ≡ arrived_by D ms
  MayCall ms (Fill v) (SetTotal total) = (v ≡ D.shape.workers)
      × (D.subject.total (next_id (held_by ms)) ≡ Some total)
  MayCall ms (Fill v) (NoteDone n) = (v ≡ 0) × GivesUp ms n
  MayCall ms Opens (Install id) = id ≡ next_id (held_by ms)
  MayCall ms Tells Announce = Unit {0}
  MayCall ms FreeIt Release = Unit {0}
  MayCall ms (Enters s) (Enter k) = k ≡ s
  MayCall ms Look (LookOpen id) = Unit {0}
  MayCall ms Look LookInvalid = Unit {0}
  MayCall ms Look LookVacant = Unit {0}
  MayCall ms Early LeaveLeft = Unit {0}
  MayCall ms Early (LeaveOwe id) = Unit {0}
  MayCall ms Claim (ClaimRange n from to) = n ≡ size_by ms
  MayCall ms Claim (ClaimUsed n) = n ≡ size_by ms
  MayCall ms Shut ShutWon = Unit {0}
  MayCall ms Shut ShutLost = Unit {0}
  MayCall ms Leave LeaveLeft = Unit {0}
  MayCall ms Leave (LeaveOwe id) = Unit {0}
  MayCall ms Ask MarkMarked = Unit {0}
  MayCall ms Ask MarkMissed = Unit {0}
  MayCall ms Sweep SweepLast = Unit {0}
  MayCall ms Sweep (SweepOthers n) = Unit {0}
  MayCall ms Pay PayLast = Unit {0}
  MayCall ms Pay PayDone = Unit {0}
  MayCall ms (Fetch v) (NoteDone n) = (v ≡ D.shape.workers) × ((n ≡ 1) ⊎ GivesUp ms n)
  MayCall ms x _ = ⊥

  -- the worker exchanges a cell
  abbrev pub MayExchange : Point → Type 0
  MayExchange (Fill v) = v < D.shape.workers
  MayExchange Take = Unit {0}
  MayExchange Back = Unit {0}
  MayExchange (Fetch v) = v < D.shape.workers
  MayExchange x = ⊥

  -- the worker makes this move after these moves
  abbrev pub May : List Move → Move → Type 0
  May ms (Made a t) = MayCall ms (point_by D ms) a
  May ms Exchanged = MayExchange (point_by D ms)

  -- each of the moves is one that the worker makes
  abbrev pub AreDriven : List Move → Type 0
  AreDriven [] = Unit {0}
  AreDriven (m ∷ ms) = May ms m × AreDriven ms

  -- ---- turns

  -- after the moves `ms` the worker makes these moves more, and the turn does not end
  abbrev pub GoesOn : List Move → List Move → Type 0
  GoesOn [] ms = Unit {0}
  GoesOn (m ∷ more) ms = May (more ++ ms) m × (has_ended (point_by D (m ∷ more ++ ms)) ≡ false)
      × GoesOn more ms

  -- these moves more end the turn, in this way
  pub record EndsTurn (more ms : List Move) (turn : Turn) : Type 0 where
    pub last : Move
    pub before : List Move
    pub all : more ≡ last ∷ before
    pub way : GoesOn before ms
    pub may : May (before ++ ms) last
    pub ends : point_by D (more ++ ms) ≡ Ready turn

  -- after the moves `ms` no turn is under way, and these moves more are one
  pub record IsTurn (more ms : List Move) (turn : Turn) : Type 0 where
    pub begins : has_ended (point_by D ms) ≡ true
    pub turns : EndsTurn more ms turn
