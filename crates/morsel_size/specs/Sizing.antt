-- The size of the next morsel, by the pace of those before it.
use Rattle.std.specs.Prelude.{ℕ, List, ◌+◌, ◌-◌, ◌*◌, ◌/◌, ◌^◌, ◌≤◌, min, max, fold, nat_lt, nat_le}
use Rattle.std.specs.Prelude.{if◌then◌else◌}
use Rattle.std.specs.Int.{div_ceil}
use Rattle.morsel_size.specs.declared.Pace.{Pace}
use Rattle.morsel_size.specs.declared.Pace.TheVariants.{Startup, Measured}
use Rattle.morsel_size.specs.declared.TheConstants.{FIRST_SIZE, LARGEST_SIZE, STARTUP_NS}
use Rattle.morsel_size.specs.declared.TheConstants.{PARTS_PER_NS, DEFAULT_TIME, SHUTDOWN_TIME}

-- what contracts see of a `Sizer`: how many workers share the task set, and the pace so far
pub record Sizing : Type 0 where
  pub workers : ℕ
  pub pace : Pace

-- how long a tuple of a morsel took, in 1,024ths of a nanosecond, rounded up
abbrev pub time_per_tuple : ℕ → ℕ → ℕ
time_per_tuple tuples ns = div_ceil (ns * PARTS_PER_NS) tuples

-- an estimate that takes in the latest time per tuple: four fifths of it, and a fifth of the
-- estimate before
abbrev pub blend_of : ℕ → ℕ → ℕ
blend_of latest estimate = max 1 ((4 * latest + estimate) / 5)

-- the pace after a morsel of so many tuples that took so many nanoseconds
abbrev pub pace_after : Pace → ℕ → ℕ → Pace
pace_after (Startup size) tuples ns =
    if nat_lt ns STARTUP_NS
    then Startup (min (2 * size) LARGEST_SIZE)
    else Measured (time_per_tuple tuples ns)
pace_after (Measured estimate) tuples ns =
    Measured (blend_of (time_per_tuple tuples ns) estimate)

-- the pace after the morsels taken, each with its tuples and its nanoseconds, the first one first
abbrev pub pace_of : List (ℕ × ℕ) → Pace
pace_of taken = fold (λ pace morsel. pace_after pace morsel.0 morsel.1) (Startup FIRST_SIZE) taken

-- the size by default: as many tuples as the estimate gives to 2,000,000 nanoseconds
abbrev pub default_size : ℕ → ℕ
default_size estimate = max 1 (min (DEFAULT_TIME / estimate) LARGEST_SIZE)

-- the size of a measured morsel where so many tuples rest: near the end of the task set the workers
-- share what rests, in morsels of no less than 250,000 nanoseconds
abbrev pub measured_size : ℕ → ℕ → ℕ → ℕ
measured_size workers estimate rest =
    if nat_le (workers * default_size estimate) rest
    then default_size estimate
    else min (default_size estimate)
    (max 1 (max (SHUTDOWN_TIME / estimate) (div_ceil rest workers)))

-- the size of the next morsel where so many tuples rest
abbrev pub size_at : ℕ → Pace → ℕ → ℕ
size_at workers (Startup size) rest = size
size_at workers (Measured estimate) rest = measured_size workers estimate rest

-- the size of the next morsel of a task set, over all that was taken of it so far
abbrev pub size_of : ℕ → List (ℕ × ℕ) → ℕ → ℕ → ℕ
size_of workers taken total last_end = size_at workers (pace_of taken) (total - last_end)

-- a size is 1 to 65,536 tuples, and an estimate 1 to 2^46 parts of a nanosecond
abbrev pub IsInRange : Pace → Type 0
IsInRange (Startup size) = (1 ≤ size) × (size ≤ LARGEST_SIZE)
IsInRange (Measured estimate) = (1 ≤ estimate) × (estimate ≤ 2 ^ 46)
