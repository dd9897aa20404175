-- What the point after a call says of the call.
use Rattle.std.proofs.Common.{◌≡◌, ℕ, ◌+◌, ◌/◌, Bool, true, false, cond, ltb, List, Option, Some, None, refl}
use Rattle.slot_history.specs.declared.shape.TheConstants.{STAGES, PARTS}
use Rattle.slot_history.specs.declared.act.Act.{Act}
use Rattle.slot_history.specs.declared.act.Act.TheVariants.{Enter, LookOpen, LookInvalid, LookVacant, ClaimRange, ClaimUsed, ShutWon, ShutLost, LeaveLeft}
use Rattle.slot_history.specs.declared.act.Act.TheVariants.{LeaveOwe, PayLast, PayDone, MarkMarked, MarkMissed, SweepLast, SweepOthers, ReserveGot}
use Rattle.slot_history.specs.declared.act.Act.TheVariants.{ReserveTaken, AdmitGot, AdmitLost, Arrivals, Finished, NoteDone, SetTotal, Install, Release}
use Rattle.slot_history.specs.declared.act.Act.TheVariants.{Announce, TakeReturn, TakeChange}
use Rattle.slot_history.specs.declared.place.Place.{Place}
use Rattle.slot_history.specs.declared.place.Place.TheVariants.{Asking, Announcing}
use Rattle.slot_history.specs.States.{held_at, next_id}
use Rattle.slot_history.specs.Steps.{moved}
use Rattle.stride_set.specs.Strides.{choice_of}
use Rattle.slot_station.specs.Desks.{Desk}
use Rattle.turn_model.specs.declared.turn.Turn.{Turn}
use Rattle.turn_model.specs.Workloads.{Workload, sets_of}
use Rattle.turn_model.specs.Moves.{Move}
use Rattle.turn_model.specs.Learned.{place_by, lets_in, strides_by, finished_by}
use Rattle.turn_model.specs.Points.{Point, Ready, Return, Change, Count, Arrive, Scan, Admit, Fill, Opens, Tells, FreeIt, Enters, Look, Early, Take, Claim}
use Rattle.turn_model.specs.Points.{Shut, Leave, Ask, Sweep, Pay, Fetch, ended_as, picked, pick, asked, told, is_due, goes_on, after}
use Rattle.turn_model.specs.Driven.{held_by, MayCall}

module _ (D : Desk Workload) (ms : List Move) where
  -- An install comes after the total of the next task set was set. A look comes after an entry, a bench is taken after a look that let
  -- the worker in, and no call is followed by a claim.
  abbrev pub CallSays : Act → Point → Type 0
  CallSays a Opens = (n : ℕ) × (a ≡ SetTotal n) × (D.subject.total (next_id (held_by D ms)) ≡ Some n)
  CallSays a Look = (s : ℕ) × (a ≡ Enter s)
  CallSays a Take = (id : ℕ) × (a ≡ LookOpen id) × (lets_in D ms (id / STAGES) ≡ true)
  CallSays a Claim = ⊥
  CallSays a x = Unit {0}

  says-cond : (a : Act) (b : Bool) (x y : Point) → CallSays a x → CallSays a y → CallSays a (cond b x y)
  says-cond a true x y p q = p
  says-cond a false x y p q = q

  says-picked : (a : Act) (o : Option ℕ) (turn : Turn) → CallSays a (picked o turn)
  says-picked a None turn = tt
  says-picked a (Some s) turn = tt

  says-asked : (a : Act) (n : ℕ) (p : Place) → CallSays a (asked n p)
  says-asked a n (Asking s id k m) = says-cond a (ltb (k + 1) n) Ask Sweep tt tt
  says-asked a n p = tt

  says-told : (a : Act) (p : Place) → CallSays a (told p)
  says-told a (Announcing s again k) = tt
  says-told a p = tt

  says-look : (id : ℕ) (b : Bool) → lets_in D ms (id / STAGES) ≡ b → CallSays (LookOpen id) (cond b Take Early)
  says-look id true lets = (id, refl, lets)
  says-look id false lets = tt

  pub after-says : (x : Point) (a : Act) → MayCall D ms x a → CallSays a (after D ms x a)
  after-says (Ready e) (TakeReturn part bits) m = tt
  after-says (Return k) (TakeReturn part bits) m = says-cond (TakeReturn part bits) (ltb (k + 1) PARTS) (Return (k + 1)) (Change 0) tt tt
  after-says (Change k) (TakeChange part bits) m = says-cond (TakeChange part bits) (ltb (k + 1) PARTS) (Change (k + 1)) Count tt tt
  after-says Count (Finished n) m = tt
  after-says Arrive (Arrivals n) m = says-cond (Arrivals n) (is_due D n (finished_by D ms)) (Scan 0) (pick D ms) tt
      (says-picked (Arrivals n) (choice_of (strides_by D ms)) (ended_as (finished_by D ms) (sets_of D.shape D.subject)))
  after-says (Scan s) (ReserveGot k) m = tt
  after-says (Scan s) (ReserveTaken k word) m = says-cond (ReserveTaken k word) (ltb (s + 1) D.shape.slots) (Scan (s + 1)) (pick D ms) tt
      (says-picked (ReserveTaken k word) (choice_of (strides_by D ms)) (ended_as (finished_by D ms) (sets_of D.shape D.subject)))
  after-says Admit (AdmitGot q) m = tt
  after-says Admit (AdmitLost q now) m = tt
  after-says (Fill v) (SetTotal n) m = (n, refl, m.1)
  after-says (Fill v) (NoteDone n) m = tt
  after-says Opens (Install id) m = tt
  after-says Tells Announce m = says-told Announce (moved D.shape Announce (place_by D ms))
  after-says FreeIt Release m = tt
  after-says (Enters s) (Enter k) m = (k, refl)
  after-says Look (LookOpen id) m = says-look id (lets_in D ms (id / STAGES)) refl
  after-says Look LookInvalid m = tt
  after-says Look LookVacant m = tt
  after-says Early LeaveLeft m = tt
  after-says Early (LeaveOwe id) m = tt
  after-says Claim (ClaimRange n from to) m = tt
  after-says Claim (ClaimUsed n) m = tt
  after-says Shut ShutWon m = tt
  after-says Shut ShutLost m = tt
  after-says Leave LeaveLeft m = says-asked LeaveLeft D.shape.workers (moved D.shape LeaveLeft (place_by D ms))
  after-says Leave (LeaveOwe id) m = tt
  after-says Ask MarkMarked m = says-asked MarkMarked D.shape.workers (moved D.shape MarkMarked (place_by D ms))
  after-says Ask MarkMissed m = says-asked MarkMissed D.shape.workers (moved D.shape MarkMissed (place_by D ms))
  after-says Sweep SweepLast m = tt
  after-says Sweep (SweepOthers n) m = tt
  after-says Pay PayLast m = tt
  after-says Pay PayDone m = tt
  after-says (Fetch v) (NoteDone n) m = says-cond (NoteDone n) (goes_on D.subject (held_at (place_by D ms)) n) (Fill 0) FreeIt tt tt
  after-says x a m = absurd m
