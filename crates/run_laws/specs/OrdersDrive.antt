-- Runs by an order are made of moves that workers make.
use Rattle.std.specs.Prelude.{ℕ, List}
use Rattle.slot_history.specs.declared.shape.Shape.{Shape}
use Rattle.turn_model.specs.Workloads.{Workload}
use Rattle.turn_model.specs.Driven.{AreDriven}
use Rattle.turn_model.specs.Runs.{Run, desk_at}
use Rattle.turn_model.specs.Orders.{IsByTurns, IsByMoves}

-- the moves of every worker are those that it makes
abbrev pub AllDriven : Shape → Workload → Run → Type 0
AllDriven d load run = (w : ℕ) → AreDriven (desk_at d load w) (run.team w)

-- ---- the laws, as the function of module `laws` states them

abbrev pub TurnsDrive : Type 0
TurnsDrive = (d : Shape) (load : Workload) (order : List ℕ) (run : Run) → IsByTurns d load order run
    → AllDriven d load run

abbrev pub MovesDrive : Type 0
MovesDrive = (d : Shape) (load : Workload) (order : List ℕ) (run : Run) → IsByMoves d load order run
    → AllDriven d load run
