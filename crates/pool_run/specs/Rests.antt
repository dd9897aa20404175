-- The rest of a turn of a worker.
use Rattle.std.specs.Prelude.{ℕ, List}
use Rattle.turn_model.specs.declared.turn.Turn.{Turn}
use Rattle.turn_model.specs.Moves.{Move}
use Rattle.turn_model.specs.Driven.{EndsTurn}
use Rattle.worker_machine.specs.Loads.{model_desk}
use Rattle.worker_machine.specs.Keeps.{Standing, HasMade}
use Rattle.worker_machine.specs.Turning.{Adds}

-- these moves more end the turn that is under way, in this way
pub record Rests (may_take : ℕ → ℕ → ℕ → Type 0) (from : Standing) (turn : Turn) (to : Standing)
    : Type 0 where
  pub more : List Move
  pub ends : (ms : List Move) → HasMade from ms → EndsTurn (model_desk from.desk) more ms turn
  pub adds : Adds may_take from more to
