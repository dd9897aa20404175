-- The stints of a run: what a worker plays when its number comes, and what that leads to.
use Rattle.std.specs.Prelude.{◌≡◌, ℕ, true, List, ◌∷◌, []}
use Rattle.slot_history.specs.declared.shape.Shape.{Shape}
use Rattle.slot_station.specs.Desks.{Desk}
use Rattle.turn_model.specs.Workloads.{Workload}
use Rattle.turn_model.specs.declared.turn.Turn.{Turn}
use Rattle.turn_model.specs.declared.turn.Turn.TheVariants.{Over}
use Rattle.turn_model.specs.Moves.{Move}
use Rattle.turn_model.specs.Points.{has_ended}
use Rattle.turn_model.specs.Driven.{May, EndsTurn, IsTurn}
use Rattle.turn_model.specs.Runs.{Run}
use Rattle.turn_model.specs.Orders.{PlayInOrder, PlaysTurn, PlaysMove, PlaysOn, IsOver, point_in}
use Rattle.worker_machine.specs.declared.phase.Phase.{Phase}
use Rattle.worker_machine.specs.declared.phase.Phase.TheVariants.{Ready}
use Rattle.worker_machine.specs.Keeps.{Standing, HasMade}
use Rattle.worker_machine.specs.Left.{is_ready}
use Rattle.worker_machine.specs.Loads.{model_desk}
use Rattle.worker_machine.specs.Turning.{Adds}
use Rattle.pool_run.specs.Runs.{Course, turns, moves}
use Rattle.pool_run.specs.declared.stint.Stint.{Stint}
use Rattle.pool_run.specs.declared.stint.Stint.TheVariants.{WholeTurn, OneStep, RestOfTurn}

-- a worker at this phase is passed over
abbrev pub IsPassedOver : Stint → Phase → Type 0
IsPassedOver WholeTurn phase = phase ≡ Ready Over
IsPassedOver OneStep phase = phase ≡ Ready Over
IsPassedOver RestOfTurn phase = is_ready phase ≡ true

-- the stint ends with no turn under way
abbrev pub EndsTurns : Stint → Type 0
EndsTurns stint = stint ≡ OneStep → ⊥

-- the workers of an order play such a stint, and so follow this course
abbrev pub IsOfOrder : Stint → Type 0
IsOfOrder stint = stint ≡ RestOfTurn → ⊥

abbrev pub course_by : Stint → List ℕ → Course
course_by WholeTurn order = turns order
course_by OneStep order = moves order
course_by RestOfTurn order = moves order

-- ---- by the model

module _ (d : Shape) (load : Workload) where
  -- how a worker plays a stint, and when the model passes it over
  abbrev pub PlaysStint : Stint → Run → ℕ → Run → Type 0
  PlaysStint WholeTurn = PlaysTurn d load
  PlaysStint OneStep = PlaysMove d load
  PlaysStint RestOfTurn = PlaysOn d load

  abbrev pub PassesOver : Stint → Run → ℕ → Type 0
  PassesOver WholeTurn = IsOver d load
  PassesOver OneStep = IsOver d load
  PassesOver RestOfTurn = λ run w. has_ended (point_in d load run w) ≡ true

  -- the workers of an order play a stint, one after another
  abbrev pub PlayStints : Stint → List ℕ → Run → Run → Type 0
  PlayStints stint = PlayInOrder d load (PlaysStint stint) (PassesOver stint)

-- these moves more are the stint, after those
abbrev pub IsStint : Stint → Desk Workload → List Move → List Move → Type 0
IsStint WholeTurn D more ms = (turn : Turn) × IsTurn D more ms turn
IsStint OneStep D more ms = (move : Move) × (more ≡ move ∷ []) × May D ms move
IsStint RestOfTurn D more ms = (turn : Turn) × EndsTurn D more ms turn

-- a worker has played a stint, whatever moves it has made
pub record Acts (may_take : ℕ → ℕ → ℕ → Type 0) (stint : Stint) (from to : Standing) : Type 0 where
  pub more : List Move
  pub is_stint : (ms : List Move) → HasMade from ms → IsStint stint (model_desk from.desk) more ms
  pub adds : Adds may_take from more to
