-- One turn of a worker, and its moves so far.
use Rattle.std.specs.Prelude.{ℕ, List, ◌++◌}
use Rattle.slot_station.specs.Desks.{Seen}
use Rattle.turn_model.specs.declared.turn.Turn.{Turn}
use Rattle.turn_model.specs.Moves.{Move}
use Rattle.turn_model.specs.Driven.{GoesOn, IsTurn}
use Rattle.turn_model.specs.Runs.{AreTimed}
use Rattle.bench_cell.specs.declared.plan.Plan.{Plan}
use Rattle.worker_machine.specs.declared.state.Worker.{Worker}
use Rattle.worker_machine.specs.Loads.{model_desk}
use Rattle.worker_machine.specs.Keeps.{Standing, HasMade, standing}

abbrev pub standing_of : {O : Type 0} → Worker → Seen O Plan → Standing
standing_of worker seen = standing worker.core worker.phase seen

module _ (may_take : ℕ → ℕ → ℕ → Type 0) (from : Standing) where
  -- these moves more keep their times, and the worker has made them
  pub record Adds (more : List Move) (to : Standing) : Type 0 where
    pub timed : (ms : List Move) → HasMade from ms → AreTimed may_take (model_desk from.desk) ms
        → AreTimed may_take (model_desk from.desk) (more ++ ms)
    pub made : (ms : List Move) → HasMade from ms → HasMade to (more ++ ms)

  -- the turn goes on
  pub record Goes (to : Standing) : Type 0 where
    pub more : List Move
    pub goes : (ms : List Move) → HasMade from ms → GoesOn (model_desk from.desk) more ms
    pub adds : Adds more to

  -- a whole turn, which ends so
  pub record Turns (turn : Turn) (to : Standing) : Type 0 where
    pub more : List Move
    pub turns : (ms : List Move) → HasMade from ms → IsTurn (model_desk from.desk) more ms turn
    pub adds : Adds more to
