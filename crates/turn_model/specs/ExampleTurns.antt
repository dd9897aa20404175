-- What a worked example is, with parts of turns and plain work for it. Lists of moves have the
-- newest first, so each part is followed by what came before it.
use Rattle.std.specs.Prelude.{◌≡◌, ℕ, List, [], ◌∷◌, ◌++◌, replicate, Option, None}
use Rattle.slot_history.specs.declared.shape.Shape.{Shape}
use Rattle.slot_history.specs.declared.act.Act.TheVariants.{Enter, LookOpen, ClaimRange, ClaimUsed}
use Rattle.slot_history.specs.declared.act.Act.TheVariants.{ShutWon, LeaveLeft, ReserveGot}
use Rattle.slot_history.specs.declared.act.Act.TheVariants.{AdmitGot, Arrivals, Finished, NoteDone}
use Rattle.slot_history.specs.declared.act.Act.TheVariants.{SetTotal, Install, Announce}
use Rattle.slot_history.specs.declared.act.Act.TheVariants.{TakeReturn, TakeChange}
use Rattle.slot_station.specs.Desks.{Desk}
use Rattle.turn_model.specs.declared.turn.Turn.TheVariants.{Over}
use Rattle.turn_model.specs.Workloads.{Workload}
use Rattle.turn_model.specs.Moves.{Move, Made, Exchanged, times_of}
use Rattle.turn_model.specs.Learned.{strides_by, priority_in}
use Rattle.turn_model.specs.Points.{Ready, point_by}
use Rattle.turn_model.specs.Driven.{AreDriven}

-- queries of weight 10 that arrive at once, with these stages and totals; a tuple costs 100
abbrev pub plain_load : (ℕ → ℕ) → (ℕ → Option ℕ) → Workload
plain_load stages total = record {
  after = λ q. 0;
  weight = λ q. 10;
  cost = λ q. 100;
  stages = stages;
  total = total;
  answer = λ q. None;
}

-- an object with so many workers, slots and queries
abbrev pub object_of : ℕ → ℕ → ℕ → Shape
object_of workers slots queries = record {
  workers = workers;
  slots = slots;
  queries = queries;
}

-- A worker with its moves, the newest first. They give these elapsed times, this largest advance
-- and this widest gap of its passes, and query 0 has this priority then.
pub record Example : Type 0 where
  pub desk : Desk Workload
  pub moves : List Move
  pub times : List ℕ
  pub largest : ℕ
  pub widest : ℕ
  pub priority : ℕ

-- the moves are whole turns, of which the last ended with Over, and give what the example says
pub record Plays (example : Example) : Type 0 where
  pub driven : AreDriven example.desk example.moves
  pub over : point_by example.desk example.moves ≡ Ready Over
  pub times : times_of example.moves ≡ example.times
  pub largest : (strides_by example.desk example.moves).largest ≡ example.largest
  pub widest : (strides_by example.desk example.moves).widest ≡ example.widest
  pub priority : priority_in example.desk 0 example.moves ≡ example.priority

-- a turn begins: the bits of the slots below 64 that return and change notices have, and how many
-- task sets are done and how many queries were admitted
abbrev pub begins : ℕ → ℕ → ℕ → ℕ → List Move
begins returns changes finished arrived =
    Made (Arrivals arrived) 0 ∷ Made (Finished finished) 0 ∷ Made (TakeChange 1 0) 0 ∷
    Made (TakeChange 0 changes) 0 ∷ Made (TakeReturn 1 0) 0 ∷ Made (TakeReturn 0 returns) 0 ∷ []

-- the next query is admitted to a slot
abbrev pub admits : ℕ → ℕ → List Move
admits q slot = Made (AdmitGot q) 0 ∷ Made (ReserveGot slot) 0 ∷ []

-- one of so many workers opens a task set of so many tuples
abbrev pub opens : ℕ → ℕ → ℕ → List Move
opens workers id total = replicate workers (Made Announce 0)
    ++ Made (Install id) 0 ∷ Made (SetTotal total) 0 ∷ replicate workers Exchanged

-- a slot is entered, and has this task set
abbrev pub enters : ℕ → ℕ → List Move
enters slot id = Made (LookOpen id) 0 ∷ Made (Enter slot) 0 ∷ []

-- so many tuples are asked for, and the range that is got is worked on for so long
abbrev pub works : ℕ → ℕ → ℕ → ℕ → List Move
works size from to time =
    Made LeaveLeft 0 ∷ Exchanged ∷ Made (ClaimRange size from to) time ∷ Exchanged ∷ []

-- nothing is left to be claimed, and the task set is shut
abbrev pub shuts : ℕ → List Move
shuts size =
    Made LeaveLeft 0 ∷ Exchanged ∷ Made ShutWon 0 ∷ Made (ClaimUsed size) 0 ∷ Exchanged ∷ []

-- one of so many workers fetches their benches, and notes the task set as done
abbrev pub notes : ℕ → List Move
notes workers = Made (NoteDone 1) 0 ∷ replicate workers Exchanged
