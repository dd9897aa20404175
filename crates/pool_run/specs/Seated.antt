-- The workers of a board, each with its pass, and the moves that it made.
use Rattle.std.specs.Prelude.{◌≡◌, ℕ, ◌+◌, List, [], true, length, slice_get, Some}
use Rattle.board_rule.specs.declared.board.Board.{Board}
use Rattle.board_rule.specs.declared.board.Pass.{Pass}
use Rattle.board_rule.specs.Passes.{IsPassOf, seen_of}
use Rattle.bench_cell.specs.declared.bench.Bench.{Bench}
use Rattle.bench_cell.specs.declared.plan.Plan.{Plan}
use Rattle.turn_model.specs.Moves.{Move}
use Rattle.turn_model.specs.Runs.{AreTimed}
use Rattle.turn_model.specs.declared.turn.Turn.TheVariants.{Over}
use Rattle.worker_machine.specs.declared.phase.Phase.TheVariants.{Ready}
use Rattle.worker_machine.specs.declared.state.Worker.{Worker}
use Rattle.worker_machine.specs.Following.{Follows}
use Rattle.worker_machine.specs.Keeps.{HasMade}
use Rattle.worker_machine.specs.Left.{is_ready}
use Rattle.worker_machine.specs.Loads.{model_desk}
use Rattle.worker_machine.specs.Turning.{standing_of}
use Rattle.pool_run.specs.declared.threads.seated.Seated.{Seated}

-- the worker follows the seat of this pass of the board, and has made no move
pub record IsFresh (board : Board Bench Plan) (worker : Worker) (pass : Pass Bench Plan)
    : Type 0 where
  pub of_board : IsPassOf board pass
  pub follows : Follows worker (seen_of board pass)
  pub made : HasMade (standing_of worker (seen_of board pass)) []
  pub ready : is_ready worker.phase ≡ true

module _ (may_take : ℕ → ℕ → ℕ → Type 0) (board : Board Bench Plan) where
  -- The worker follows the seat of this pass, and made these moves, in times that the meter may
  -- have answered.
  pub record IsUnderWay (worker : Worker) (pass : Pass Bench Plan) : Type 0 where
    pub follows : Follows worker (seen_of board pass)
    pub moves : List Move
    pub made : HasMade (standing_of worker (seen_of board pass)) moves
    pub timed : AreTimed may_take (model_desk (seen_of board pass).desk) moves

  -- the last turn ended with Over
  pub record IsOver (worker : Worker) (pass : Pass Bench Plan) : Type 0 where
    pub of_board : IsPassOf board pass
    pub stands : IsUnderWay worker pass
    pub over : worker.phase ≡ Ready Over

module _ (P : Worker → Pass Bench Plan → Type 0) where
  -- the worker of this number has this pass, and both meet P
  pub record SitsAt (w : ℕ) (worker : Worker) (pass : Pass Bench Plan) : Type 0 where
    pub number : pass.worker ≡ w
    pub meets : P worker pass

  -- workers and their passes, from worker 0 upwards
  pub record AreSeated (team : List Worker) (passes : List (Pass Bench Plan)) : Type 0 where
    pub count : length passes ≡ length team
    pub each : (w : ℕ) (worker : Worker) (pass : Pass Bench Plan) → slice_get team w ≡ Some worker
        → slice_get passes w ≡ Some pass → SitsAt w worker pass

  -- and from the last one of so many downwards, each with its meter
  abbrev pub SitsDownAt : {M : Type 0} → ℕ → ℕ → Seated M → Type 0
  SitsDownAt {M} workers k sits = (sits.pass.worker + k + 1 ≡ workers) × P sits.worker sits.pass

  abbrev pub AreSeatedDown : {M : Type 0} → ℕ → List (Seated M) → Type 0
  AreSeatedDown {M} workers all = (k : ℕ) (sits : Seated M) → slice_get all k ≡ Some sits
      → SitsDownAt workers k sits
