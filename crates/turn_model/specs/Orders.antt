-- Runs on one thread, by an order of workers.
use Rattle.std.specs.Prelude.{◌≡◌, ℕ, ◌<◌, true, List, [], ◌∷◌}
use Rattle.std.specs.List.{range_with_len}
use Rattle.slot_history.specs.declared.shape.Shape.{Shape}
use Rattle.turn_model.specs.Workloads.{Workload}
use Rattle.turn_model.specs.declared.turn.Turn.{Turn}
use Rattle.turn_model.specs.declared.turn.Turn.TheVariants.{Over}
use Rattle.turn_model.specs.Moves.{Move}
use Rattle.turn_model.specs.Points.{Point, Ready, has_ended, point_by}
use Rattle.turn_model.specs.Driven.{May, EndsTurn, IsTurn}
use Rattle.turn_model.specs.Runs.{Run, nothing_done, and_then, desk_at}

module _ (d : Shape) (load : Workload) where
  -- at which point of its turn a worker is
  abbrev pub point_in : Run → ℕ → Point
  point_in run w = point_by (desk_at d load w) (run.team w)

  abbrev pub IsOver : Run → ℕ → Type 0
  IsOver run w = point_in run w ≡ Ready Over

  -- a worker makes a whole turn
  pub record PlaysTurn (run : Run) (w : ℕ) (next : Run) : Type 0 where
    pub more : List Move
    pub turn : Turn
    pub turns : IsTurn (desk_at d load w) more (run.team w) turn
    pub next_is : next ≡ and_then run w more

  -- a worker makes one move
  pub record PlaysMove (run : Run) (w : ℕ) (next : Run) : Type 0 where
    pub move : Move
    pub may : May (desk_at d load w) (run.team w) move
    pub next_is : next ≡ and_then run w (move ∷ [])

  -- a worker ends the turn that is under way
  pub record PlaysOn (run : Run) (w : ℕ) (next : Run) : Type 0 where
    pub more : List Move
    pub turn : Turn
    pub turns : EndsTurn (desk_at d load w) more (run.team w) turn
    pub next_is : next ≡ and_then run w more

  -- The workers of an order play one after another, each as `Plays` says. A worker is passed over
  -- if `Passes` holds of it then.
  pub data PlayInOrder (Plays : Run → ℕ → Run → Type 0) (Passes : Run → ℕ → Type 0)
      : List ℕ → Run → Run → Type 0 where
    none : (run : Run) → PlayInOrder Plays Passes [] run run
    passes : (w : ℕ) (order : List ℕ) (run end : Run) → Passes run w
        → PlayInOrder Plays Passes order run end → PlayInOrder Plays Passes (w ∷ order) run end
    plays : (w : ℕ) (order : List ℕ) (run next end : Run) → (Passes run w → ⊥)
        → Plays run w next → PlayInOrder Plays Passes order next end
        → PlayInOrder Plays Passes (w ∷ order) run end

  -- whole turns, or single moves, by an order; a worker that is over is passed over
  abbrev pub PlayTurns : List ℕ → Run → Run → Type 0
  PlayTurns = PlayInOrder PlaysTurn IsOver

  abbrev pub PlayMoves : List ℕ → Run → Run → Type 0
  PlayMoves = PlayInOrder PlaysMove IsOver

  -- the turns that are under way are ended, from worker 0 upwards
  abbrev pub EndTurns : Run → Run → Type 0
  EndTurns = PlayInOrder PlaysOn (λ run w. has_ended (point_in run w) ≡ true)
      (range_with_len 0 d.workers)

  abbrev pub AllOver : Run → Type 0
  AllOver run = (w : ℕ) → w < d.workers → IsOver run w

  -- rounds of whole turns, each from worker 0 upwards, until all workers are over
  pub data PlayRounds : Run → Run → Type 0 where
    over : (run : Run) → AllOver run → PlayRounds run run
    round : (run next end : Run) → (AllOver run → ⊥)
        → PlayTurns (range_with_len 0 d.workers) run next → PlayRounds next end
        → PlayRounds run end

  -- a run by turns of the order, and then in rounds
  pub record IsByTurns (order : List ℕ) (end : Run) : Type 0 where
    pub middle : Run
    pub turns : PlayTurns order nothing_done middle
    pub rounds : PlayRounds middle end

  -- a run by moves of the order; then the turns under way are ended, and rounds follow
  pub record IsByMoves (order : List ℕ) (end : Run) : Type 0 where
    pub first : Run
    pub second : Run
    pub moves : PlayMoves order nothing_done first
    pub ended : EndTurns first second
    pub rounds : PlayRounds second end
