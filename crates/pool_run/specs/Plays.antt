-- What a stretch of a run does: from any run so far to one that goes on from it.
use Rattle.std.specs.Prelude.{◌≡◌, ℕ, List}
use Rattle.slot_history.specs.declared.shape.Shape.{Shape}
use Rattle.turn_model.specs.Workloads.{Workload}
use Rattle.turn_model.specs.Runs.{Run}
use Rattle.turn_model.specs.Orders.{PlayRounds}
use Rattle.worker_machine.specs.Loads.{load_of}
use Rattle.pool_run.specs.declared.stint.Stint.{Stint}
use Rattle.pool_run.specs.Stints.{PlayStints}
use Rattle.pool_run.specs.Scenes.{Scene, HasPlayed}

-- what may become of a run, over an object of a shape and for a workload
abbrev pub Play : Type 1
Play = Shape → Workload → Run → Run → Type 0

-- the workers of an order play a stint
abbrev pub stints_by : Stint → List ℕ → Play
stints_by stint order d load run next = PlayStints d load stint order run next

-- rounds up to the end
abbrev pub rounds : Play
rounds d load run next = PlayRounds d load run next

-- some rounds were played: whatever rounds go on from there go on from where they began
abbrev pub some_rounds : Play
some_rounds d load run next = (end : Run) → PlayRounds d load next end → PlayRounds d load run end

-- the run went on so to what stands there now
pub record Reaches (may_take : ℕ → ℕ → ℕ → Type 0) (Plays : Run → Run → Type 0) (run : Run)
    (now : Scene) : Type 0 where
  pub next : Run
  pub plays : Plays run next
  pub played : HasPlayed may_take now next

-- From `was` to `now` each run that led to `was` went on so.
pub record Leads (may_take : ℕ → ℕ → ℕ → Type 0) (play : Play) (was now : Scene) : Type 0 where
  pub shape : now.table.shape ≡ was.table.shape
  pub subject : now.table.subject ≡ was.table.subject
  pub leads : (run : Run) → HasPlayed may_take was run
      → Reaches may_take (play was.table.shape (load_of was.table.subject)) run now
