-- The task sets of a plan's queries.
use Rattle.std.specs.Prelude.{ℕ, IsSome}
use Rattle.bench_cell.specs.declared.plan.Plan.{Plan}
use Rattle.bench_cell.specs.Plans.{total_of}

-- the plan has a task set of this id
abbrev pub IsTask : Plan → ℕ → Type 0
IsTask plan id = IsSome (total_of plan id)
