-- A table with its workers, and the run that brought them there.
use Rattle.std.specs.Prelude.{◌≡◌, ℕ, ◌<◌, ◌≤◌, ◌⊎◌, true, List, [], length, slice_get, Some}
use Rattle.slot_history.specs.Histories.{IsLegal}
use Rattle.slot_station.specs.Desks.{Seen}
use Rattle.slot_station.specs.Log.{calls_of}
use Rattle.one_thread.specs.Tables.{TableStory}
use Rattle.one_thread.specs.Seats.{IsSince, desk_over, shown_by}
use Rattle.turn_model.specs.Runs.{Run, AreTimed, desk_at}
use Rattle.bench_cell.specs.declared.plan.Plan.{Plan}
use Rattle.worker_machine.specs.declared.phase.Phase.TheVariants.{Ready}
use Rattle.turn_model.specs.declared.turn.Turn.TheVariants.{Over}
use Rattle.worker_machine.specs.declared.state.Worker.{Worker}
use Rattle.worker_machine.specs.Following.{Follows, IsNewFor}
use Rattle.worker_machine.specs.Keeps.{Standing, HasMade}
use Rattle.worker_machine.specs.Left.{is_ready}
use Rattle.worker_machine.specs.Loads.{load_of}
use Rattle.worker_machine.specs.Turning.{standing_of}

pub record Scene : Type 0 where
  pub table : TableStory Plan
  pub team : List Worker

abbrev pub scene : TableStory Plan → List Worker → Scene
scene table team = record { table = table; team = team }

-- the table of a plan, for so many workers and slots, over which no call was made
abbrev pub new_table : Plan → ℕ → ℕ → TableStory Plan
new_table plan workers slots = record {
  shape = record { workers = workers; slots = slots; queries = length plan.queries.items };
  subject = plan;
  log = [];
}

-- what the seat of w shows
abbrev pub shown : TableStory Plan → ℕ → Seen (Unit {0}) Plan
shown table w = shown_by (desk_over table w) table.log

-- the worker follows the seat of w
abbrev pub FollowsIn : TableStory Plan → ℕ → Worker → Type 0
FollowsIn table w worker = Follows worker (shown table w)

abbrev pub stands_in : TableStory Plan → ℕ → Worker → Standing
stands_in table w worker = standing_of worker (shown table w)

-- the steps of w leave what the seats of others show
pub record Since (old new : TableStory Plan) (w : ℕ) : Type 0 where
  pub shape : new.shape ≡ old.shape
  pub subject : new.subject ≡ old.subject
  pub since : ∥ IsSince old new w ∥₁

-- each worker of the table stands in the team at its number, and follows its seat
pub record TeamFollows (at : Scene) : Type 0 where
  pub count : length at.team ≡ at.table.shape.workers
  pub each : (w : ℕ) (worker : Worker) → slice_get at.team w ≡ Some worker
      → FollowsIn at.table w worker

-- this worker has no turn under way
abbrev pub IsBetween : List Worker → ℕ → Type 0
IsBetween team w = (worker : Worker) → slice_get team w ≡ Some worker
    → is_ready worker.phase ≡ true

-- no turn is under way, and no turn of these workers
abbrev pub NoneTurns : List Worker → Type 0
NoneTurns team = (w : ℕ) → IsBetween team w

abbrev pub NoneTurnsBelow : ℕ → List Worker → Type 0
NoneTurnsBelow n team = (w : ℕ) → w < n → IsBetween team w

-- whoever had no turn under way has none, nor has w
abbrev pub StaysBetween : ℕ → List Worker → List Worker → Type 0
StaysBetween w old new = (v : ℕ) → (v ≡ w) ⊎ IsBetween old v → IsBetween new v

-- the last turn of every worker ended with Over
abbrev pub AreOver : List Worker → Type 0
AreOver team = (w : ℕ) (worker : Worker) → slice_get team w ≡ Some worker
    → worker.phase ≡ Ready Over

-- so many workers, each at its number over a table, that made no call
pub record AreNew (table : TableStory Plan) (workers : ℕ) (team : List Worker) : Type 0 where
  pub count : length team ≡ workers
  pub each : (w : ℕ) (worker : Worker) → slice_get team w ≡ Some worker
      → IsNewFor (desk_over table w) worker

-- nobody made a step yet
pub record IsNew (at : Scene) : Type 0 where
  pub log : at.table.log ≡ []
  pub team : AreNew at.table at.table.shape.workers at.team

-- The workers made the moves of the run, in times that the meter may have answered.
pub record HasPlayed (may_take : ℕ → ℕ → ℕ → Type 0) (at : Scene) (run : Run) : Type 0 where
  pub history : run.history ≡ calls_of at.table.log
  pub no_more : (w : ℕ) → at.table.shape.workers ≤ w → run.team w ≡ []
  pub made : (w : ℕ) (worker : Worker) → slice_get at.team w ≡ Some worker
      → HasMade (stands_in at.table w worker) (run.team w)
  pub timed : (w : ℕ) → w < at.table.shape.workers
      → AreTimed may_take (desk_at at.table.shape (load_of at.table.subject) w) (run.team w)

-- a worker that is not over
pub record HasGoing (team : List Worker) : Type 0 where
  pub worker : ℕ
  pub item : Worker
  pub here : slice_get team worker ≡ Some item
  pub not_over : item.phase ≡ Ready Over → ⊥

-- a run led here, and no turn is under way
pub record Between (may_take : ℕ → ℕ → ℕ → Type 0) (at : Scene) : Type 0 where
  pub run : Run
  pub played : HasPlayed may_take at run
  pub follows : TeamFollows at
  pub none : NoneTurns at.team
  pub legal : IsLegal at.table.shape (calls_of at.table.log)
