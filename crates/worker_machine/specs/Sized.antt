-- What a worker's sizers have to do with the totals of their task sets.
use Rattle.std.specs.Prelude.{◌≡◌, ℕ, ◌≤◌, List, Some, slice_get}
use Rattle.bench_cell.specs.declared.plan.Plan.{Plan}
use Rattle.bench_cell.specs.Plans.{total_of}
use Rattle.worker_machine.specs.declared.kept.Known.{Known}

-- the last range lies within the task set
pub record IsSized (plan : Plan) (known : Known) : Type 0 where
  pub within : (id total : ℕ) → known.id ≡ Some id → total_of plan id ≡ Some total
      → known.last_end ≤ total

abbrev pub AreSized : Plan → List Known → Type 0
AreSized plan list = (s : ℕ) (known : Known) → slice_get list s ≡ Some known → IsSized plan known
