-- Whether moves are those that a worker makes, as a test that computes.
use Rattle.std.proofs.Common.{◌≡◌, ◌⊎◌, inl, inr, ⊎_elim, ℕ, Bool, true, false, ◌&&◌, ◌||◌, eqb, ltb, List, [], ◌∷◌, refl, eqb-true, ltb-true}
use Rattle.slot_history.specs.declared.act.Act.{Act}
use Rattle.slot_history.specs.declared.act.Act.TheVariants.{Enter, LookOpen, LookInvalid, LookVacant, ClaimRange, ClaimUsed, ShutWon, ShutLost, LeaveLeft}
use Rattle.slot_history.specs.declared.act.Act.TheVariants.{LeaveOwe, PayLast, PayDone, MarkMarked, MarkMissed, SweepLast, SweepOthers, ReserveGot}
use Rattle.slot_history.specs.declared.act.Act.TheVariants.{ReserveTaken, AdmitGot, AdmitLost, Arrivals, Finished, NoteDone, SetTotal, Install, Release}
use Rattle.slot_history.specs.declared.act.Act.TheVariants.{Announce, TakeReturn, TakeChange}
use Rattle.slot_history.specs.States.{next_id}
use Rattle.slot_station.specs.Desks.{Desk}
use Rattle.turn_model.specs.Workloads.{Workload}
use Rattle.turn_model.specs.declared.turn.Turn.TheVariants.{Over}
use Rattle.turn_model.specs.Moves.{Move, Made, Exchanged, times_of}
use Rattle.turn_model.specs.Learned.{arrived_by, strides_by, priority_in}
use Rattle.turn_model.specs.Points.{Point, Ready, Return, Change, Count, Arrive, Scan, Admit, Fill, Opens, Tells, FreeIt, Enters, Look, Early, Take, Claim}
use Rattle.turn_model.specs.Points.{Shut, Back, Leave, Ask, Sweep, Pay, Fetch, rest_of, point_by}
use Rattle.turn_model.specs.Driven.{size_by, held_by, GivesUp, MayCall, MayExchange, AreDriven}
use Rattle.turn_model.specs.Keeping.{is_number}
use Rattle.turn_model.specs.ExampleTurns.{Example, Plays}
use Rattle.turn_model.proofs.Keeping.{is-number}

both : (a b : Bool) → a && b ≡ true → (a ≡ true) × (b ≡ true)
both true true e = (refl, refl)
both true false e = absurd (cc)
both false b e = absurd (cc)

either : (a b : Bool) → a || b ≡ true → (a ≡ true) ⊎ (b ≡ true)
either true b e = inl refl
either false b e = inr e

module _ (D : Desk Workload) (ms : List Move) where
  abbrev gives_up : ℕ → Bool
  gives_up n = eqb n (rest_of D.subject (held_by D ms)) && eqb (held_by D ms).noted 0

  abbrev may_call : Point → Act → Bool
  may_call (Ready turn) (TakeReturn part bits) = eqb part 0
  may_call (Return k) (TakeReturn part bits) = eqb part k
  may_call (Change k) (TakeChange part bits) = eqb part k
  may_call Count (Finished n) = true
  may_call Arrive (Arrivals n) = true
  may_call (Scan s) (ReserveGot k) = eqb k s
  may_call (Scan s) (ReserveTaken k word) = eqb k s
  may_call Admit (AdmitGot q) = eqb q (arrived_by D ms)
  may_call Admit (AdmitLost q now) = eqb q (arrived_by D ms)
  may_call (Fill v) (SetTotal total) = eqb v D.shape.workers && is_number (D.subject.total (next_id (held_by D ms))) total
  may_call (Fill v) (NoteDone n) = eqb v 0 && gives_up n
  may_call Opens (Install id) = eqb id (next_id (held_by D ms))
  may_call Tells Announce = true
  may_call FreeIt Release = true
  may_call (Enters s) (Enter k) = eqb k s
  may_call Look (LookOpen id) = true
  may_call Look LookInvalid = true
  may_call Look LookVacant = true
  may_call Early LeaveLeft = true
  may_call Early (LeaveOwe id) = true
  may_call Claim (ClaimRange n from to) = eqb n (size_by D ms)
  may_call Claim (ClaimUsed n) = eqb n (size_by D ms)
  may_call Shut ShutWon = true
  may_call Shut ShutLost = true
  may_call Leave LeaveLeft = true
  may_call Leave (LeaveOwe id) = true
  may_call Ask MarkMarked = true
  may_call Ask MarkMissed = true
  may_call Sweep SweepLast = true
  may_call Sweep (SweepOthers n) = true
  may_call Pay PayLast = true
  may_call Pay PayDone = true
  may_call (Fetch v) (NoteDone n) = eqb v D.shape.workers && (eqb n 1 || gives_up n)
  may_call x a = false

  gives : (n : ℕ) → gives_up n ≡ true → GivesUp D ms n
  gives n e = let two = both (eqb n (rest_of D.subject (held_by D ms))) (eqb (held_by D ms).noted 0) e in
      record { all = eqb-true _ _ two.0; none = eqb-true _ _ two.1 }

  fetched : (n : ℕ) → eqb n 1 || gives_up n ≡ true → (n ≡ 1) ⊎ GivesUp D ms n
  fetched n e = ⊎_elim (λ one. inl (eqb-true n 1 one)) (λ all. inr (gives n all)) (either (eqb n 1) (gives_up n) e)

  call-is : (x : Point) (a : Act) → may_call x a ≡ true → MayCall D ms x a
  call-is (Ready turn) (TakeReturn part bits) e = eqb-true _ _ e
  call-is (Return k) (TakeReturn part bits) e = eqb-true _ _ e
  call-is (Change k) (TakeChange part bits) e = eqb-true _ _ e
  call-is Count (Finished n) e = tt
  call-is Arrive (Arrivals n) e = tt
  call-is (Scan s) (ReserveGot k) e = eqb-true _ _ e
  call-is (Scan s) (ReserveTaken k word) e = eqb-true _ _ e
  call-is Admit (AdmitGot q) e = eqb-true _ _ e
  call-is Admit (AdmitLost q now) e = eqb-true _ _ e
  call-is (Fill v) (SetTotal total) e =
      let two = both (eqb v D.shape.workers) (is_number (D.subject.total (next_id (held_by D ms))) total) e in
      (eqb-true _ _ two.0, is-number _ _ two.1)
  call-is (Fill v) (NoteDone n) e = let two = both (eqb v 0) (gives_up n) e in (eqb-true _ _ two.0, gives n two.1)
  call-is Opens (Install id) e = eqb-true _ _ e
  call-is Tells Announce e = tt
  call-is FreeIt Release e = tt
  call-is (Enters s) (Enter k) e = eqb-true _ _ e
  call-is Look (LookOpen id) e = tt
  call-is Look LookInvalid e = tt
  call-is Look LookVacant e = tt
  call-is Early LeaveLeft e = tt
  call-is Early (LeaveOwe id) e = tt
  call-is Claim (ClaimRange n from to) e = eqb-true _ _ e
  call-is Claim (ClaimUsed n) e = eqb-true _ _ e
  call-is Shut ShutWon e = tt
  call-is Shut ShutLost e = tt
  call-is Leave LeaveLeft e = tt
  call-is Leave (LeaveOwe id) e = tt
  call-is Ask MarkMarked e = tt
  call-is Ask MarkMissed e = tt
  call-is Sweep SweepLast e = tt
  call-is Sweep (SweepOthers n) e = tt
  call-is Pay PayLast e = tt
  call-is Pay PayDone e = tt
  call-is (Fetch v) (NoteDone n) e = let two = both (eqb v D.shape.workers) (eqb n 1 || gives_up n) e in (eqb-true _ _ two.0, fetched n two.1)
  call-is x a e = absurd (cc)

  abbrev may_exchange : Point → Bool
  may_exchange (Fill v) = ltb v D.shape.workers
  may_exchange Take = true
  may_exchange Back = true
  may_exchange (Fetch v) = ltb v D.shape.workers
  may_exchange x = false

  exchange-is : (x : Point) → may_exchange x ≡ true → MayExchange D x
  exchange-is (Fill v) e = ltb-true _ _ e
  exchange-is Take e = tt
  exchange-is Back e = tt
  exchange-is (Fetch v) e = ltb-true _ _ e
  exchange-is x e = absurd (cc)

abbrev pub are_driven : Desk Workload → List Move → Bool
are_driven D [] = true
are_driven D (Made a t ∷ ms) = may_call D ms (point_by D ms) a && are_driven D ms
are_driven D (Exchanged ∷ ms) = may_exchange D ms (point_by D ms) && are_driven D ms

pub are-driven : (D : Desk Workload) (ms : List Move) → are_driven D ms ≡ true → AreDriven D ms
are-driven D [] e = tt
are-driven D (Made a t ∷ ms) e =
    let two = both (may_call D ms (point_by D ms) a) (are_driven D ms) e in (call-is D ms (point_by D ms) a two.0, are-driven D ms two.1)
are-driven D (Exchanged ∷ ms) e =
    let two = both (may_exchange D ms (point_by D ms)) (are_driven D ms) e in (exchange-is D ms (point_by D ms) two.0, are-driven D ms two.1)

-- so worked examples compute
pub plays : (example : Example) → are_driven example.desk example.moves ≡ true → point_by example.desk example.moves ≡ Ready Over
    → times_of example.moves ≡ example.times → (strides_by example.desk example.moves).largest ≡ example.largest
    → (strides_by example.desk example.moves).widest ≡ example.widest → priority_in example.desk 0 example.moves ≡ example.priority → Plays example
plays example driven over times largest widest priority =
    record { driven = are-driven example.desk example.moves driven; over = over; times = times; largest = largest; widest = widest; priority = priority }
