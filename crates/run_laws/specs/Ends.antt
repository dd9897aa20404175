-- The laws by which runs on one thread end.
use Rattle.std.specs.Prelude.{◌≡◌, ◌⊎◌, ℕ, ◌<◌, ◌≤◌, true, List}
use Rattle.slot_history.specs.declared.shape.Shape.{Shape}
use Rattle.slot_history.specs.declared.shape.TheConstants.{STAGES}
use Rattle.slot_history.specs.declared.act.Entry.{Entry}
use Rattle.slot_history.specs.States.{ObjectState}
use Rattle.slot_history.specs.Steps.{state_after}
use Rattle.slot_history.specs.Histories.{IsLegal, own_calls}
use Rattle.slot_history.specs.Bounds.{IsShape}
use Rattle.slot_history.specs.Notices.{IsQuiet}
use Rattle.turn_model.specs.declared.turn.Turn.{Turn}
use Rattle.turn_model.specs.declared.turn.Turn.TheVariants.{Acted, Over}
use Rattle.turn_model.specs.Workloads.{Workload}
use Rattle.turn_model.specs.Moves.{Move, entries}
use Rattle.turn_model.specs.Driven.{AreDriven, IsTurn}
use Rattle.turn_model.specs.Runs.{Run, and_then, desk_at}
use Rattle.turn_model.specs.Points.{has_ended}
use Rattle.turn_model.specs.Orders.{IsOver, point_in}
use Rattle.turn_model.specs.Measure.{ArriveInTime, IsAccount, unclaimed, notices, Falls, left_in}
use Rattle.turn_model.specs.Measure.{not_over, IsLow, as_one}

-- each query has a stage
abbrev pub HaveStages : Shape → Workload → Type 0
HaveStages d load = (q : ℕ) → q < d.queries → 0 < load.stages q

-- the work of a run that ends: all numbers are within their limits, and queries arrive in time
pub record IsWork (d : Shape) (load : Workload) : Type 0 where
  pub shape : IsShape d
  pub some : HaveStages d load
  pub few : (q : ℕ) → q < d.queries → load.stages q ≤ STAGES
  pub in_time : ArriveInTime d load

-- a legal history of moves that its workers make, whatever time these took
pub record IsPlayed (d : Shape) (load : Workload) (run : Run) : Type 0 where
  pub legal : IsLegal d run.history
  pub driven : (w : ℕ) → w < d.workers → AreDriven (desk_at d load w) (run.team w)
  pub mine : (w : ℕ) → w < d.workers → own_calls w run.history ≡ entries w (run.team w)

-- from S to T no query was admitted, nothing was noted or claimed, and no notice is new
pub record IsKept (d : Shape) (S T : ObjectState) : Type 0 where
  pub admitted : T.admitted ≡ S.admitted
  pub finished : T.finished ≡ S.finished
  pub tuples : unclaimed d T ≡ unclaimed d S
  pub notices_fall : notices d T ≤ notices d S

-- a turn, with the states before and after it
pub record Turned : Type 0 where
  pub before : ObjectState
  pub after : ObjectState
  pub turn : Turn

-- the turn acts and lowers the numbers, or it ends with Over and keeps them; it is never idle
abbrev pub ActsOrEnds : Shape → Workload → Turned → Type 0
ActsOrEnds d load t = ((t.turn ≡ Acted) × Falls d load t.before t.after)
    ⊎ ((t.turn ≡ Over) × IsKept d t.before t.after)

-- A worker makes a whole turn while all workers are free. The turn acts or ends, and then all
-- workers are free again.
pub record EndsWell (d : Shape) (load : Workload) (t : Turned) : Type 0 where
  pub ends : ActsOrEnds d load t
  pub quiet : IsQuiet d t.after

-- who makes which moves, and how the turn that they are ends
pub record Playing : Type 0 where
  pub worker : ℕ
  pub moves : List Move
  pub turn : Turn

-- after this run, with all workers free, a worker makes moves that are a turn
pub record PlaysAlone (d : Shape) (load : Workload) (run : Run) (p : Playing) : Type 0 where
  pub worker : p.worker < d.workers
  pub before : IsPlayed d load run
  pub quiet : IsQuiet d (state_after d run.history)
  pub turns : IsTurn (desk_at d load p.worker) p.moves (run.team p.worker) p.turn
  pub legal : IsLegal d (and_then run p.worker p.moves).history

-- ---- the laws, as the functions of module `laws` state them

-- the account is right after every such run
abbrev pub IsAccounted : Type 0
IsAccounted = (d : Shape) (load : Workload) (run : Run) → HaveStages d load → IsPlayed d load run
    → IsAccount d load (state_after d run.history)

-- all workers are free while no turn is under way
abbrev pub EndedAreFree : Type 0
EndedAreFree = (d : Shape) (load : Workload) (run : Run) → IsPlayed d load run
    → ((w : ℕ) → w < d.workers → has_ended (point_in d load run w) ≡ true)
    → IsQuiet d (state_after d run.history)

-- after a turn of one worker with all workers free the run is such a run too, and the turn ends
-- well
abbrev pub TurnsEndWell : Type 0
TurnsEndWell = (d : Shape) (load : Workload) (run : Run) (p : Playing) → IsWork d load
    → PlaysAlone d load run p → let next = and_then run p.worker p.moves in
    IsPlayed d load next × EndsWell d load (record {
      before = state_after d run.history;
      after = state_after d next.history;
      turn = p.turn;
    })

-- the numbers are low after every legal history
abbrev pub LeftIsLow : Type 0
LeftIsLow = (d : Shape) (load : Workload) (h : List Entry) (workers : ℕ) → IsWork d load
    → IsLegal d h → workers ≤ d.workers → IsLow (left_in d load (state_after d h) workers)

-- A turn of a worker that is not over lowers the numbers as one number, with the number of workers
-- that are not over.
abbrev pub TurnsFallAsOne : Type 0
TurnsFallAsOne = (d : Shape) (load : Workload) (run : Run) (p : Playing) → IsWork d load
    → PlaysAlone d load run p → (IsOver d load run p.worker → ⊥)
    → let next = and_then run p.worker p.moves in
    as_one (left_in d load (state_after d next.history) (not_over d load next))
    < as_one (left_in d load (state_after d run.history) (not_over d load run))
