-- Runs: the moves of all workers, and the history that they made.
use Rattle.std.specs.Prelude.{◌≡◌, ℕ, ◌-◌, ◌^◌, ◌<◌, cond, eqb, max, min, List, [], ◌∷◌, ◌++◌}
use Rattle.slot_history.specs.declared.shape.Shape.{Shape}
use Rattle.slot_history.specs.declared.act.Act.{Act}
use Rattle.slot_history.specs.declared.act.Act.TheVariants.{ClaimRange}
use Rattle.slot_history.specs.declared.act.Entry.{Entry}
use Rattle.slot_history.specs.Histories.{IsLegal, IsOfTotals, own_calls}
use Rattle.slot_station.specs.Desks.{Desk}
use Rattle.turn_model.specs.Workloads.{Workload}
use Rattle.turn_model.specs.declared.turn.Turn.TheVariants.{Over}
use Rattle.turn_model.specs.Moves.{Move, Made, Exchanged, entries, times_of}
use Rattle.turn_model.specs.Learned.{query_by}
use Rattle.turn_model.specs.Points.{Ready, point_by}
use Rattle.turn_model.specs.Driven.{AreDriven}

-- the moves of each worker, and the history
pub record Run : Type 0 where
  pub team : ℕ → List Move
  pub history : List Entry

abbrev pub nothing_done : Run
nothing_done = record { team = λ w. []; history = [] }

-- the same run, and then these moves more of a worker
abbrev pub and_then : Run → ℕ → List Move → Run
and_then run w more = record {
  team = λ v. cond (eqb v w) (more ++ run.team v) (run.team v);
  history = entries w more ++ run.history;
}

abbrev pub desk_at : Shape → Workload → ℕ → Desk Workload
desk_at d load w = record { worker = w; shape = d; subject = load }

-- the calls and the times of a run
pub record HasRun (run : Run) (h : List Entry) (times : ℕ → List ℕ) : Type 0 where
  pub history : run.history ≡ h
  pub times_are : (w : ℕ) → times w ≡ times_of (run.team w)

-- `may_take` says which times a meter may answer, by the tuples of the range and the cost of its
-- query
module _ (may_take : ℕ → ℕ → ℕ → Type 0) where
  -- an elapsed time is what the meter answered, brought within 1 and 2^36
  abbrev pub IsElapsed : ℕ → ℕ → ℕ → Type 0
  IsElapsed tuples cost t = (ns : ℕ) × may_take tuples cost ns × (t ≡ max 1 (min ns (2 ^ 36)))

  -- the time of a call on a query: only a range takes time
  abbrev pub IsTimedCall : Workload → ℕ → Act → ℕ → Type 0
  IsTimedCall load q (ClaimRange n from to) t = IsElapsed (to - from) (load.cost q) t
  IsTimedCall load q _ t = t ≡ 0

  module _ (D : Desk Workload) where
    abbrev pub IsTimed : List Move → Move → Type 0
    IsTimed ms (Made a t) = IsTimedCall D.subject (query_by D ms) a t
    IsTimed ms Exchanged = Unit {0}

    abbrev pub AreTimed : List Move → Type 0
    AreTimed [] = Unit {0}
    AreTimed (m ∷ ms) = IsTimed ms m × AreTimed ms

    -- The worker's own calls in the history are those of its moves. These are whole turns and at
    -- most one turn that has not ended, with times that the meter may have answered.
    pub record IsDrivenBy (h : List Entry) (ms : List Move) : Type 0 where
      pub driven : AreDriven D ms
      pub timed : AreTimed ms
      pub mine : own_calls D.worker h ≡ entries D.worker ms

  module _ (d : Shape) (load : Workload) where
    -- a legal history of this work, in which each worker's own calls are turns
    pub record IsDriven (run : Run) : Type 0 where
      pub legal : IsLegal d run.history
      pub of_load : IsOfTotals load.total d run.history
      pub each : (w : ℕ) → w < d.workers
          → IsDrivenBy (desk_at d load w) run.history (run.team w)

    -- and every worker's last turn ended with Over
    pub record IsComplete (run : Run) : Type 0 where
      pub driven : IsDriven run
      pub over : (w : ℕ) → w < d.workers → point_by (desk_at d load w) (run.team w) ≡ Ready Over
