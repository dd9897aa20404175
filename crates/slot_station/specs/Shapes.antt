-- How large an object may be.
use Rattle.std.specs.Prelude.{◌≡◌, ℕ, Bool, if◌then◌else◌, nat_lt, nat_le, ◌&&◌, not, Option, Some}
use Rattle.std.specs.Prelude.{None, MatchOption, Result, Err}
use Rattle.slot_history.specs.declared.shape.Shape.{Shape}
use Rattle.slot_history.specs.declared.shape.TheConstants.{MOST_SLOTS, MOST_WORKERS, MOST_QUERIES}
pub use Rattle.slot_history.specs.Bounds.{IsShape}
use Rattle.slot_station.specs.declared.reply.MakeRefusal.{MakeRefusal}
use Rattle.slot_station.specs.declared.reply.MakeRefusal.TheVariants.{BadSlots, BadWorkers}
use Rattle.slot_station.specs.declared.reply.MakeRefusal.TheVariants.{BadQueries}

-- whether a number lies within these two
abbrev pub is_within : ℕ → ℕ → ℕ → Bool
is_within least most number = nat_le least number && nat_le number most

-- the first number for which no table is made
abbrev pub refusal_of : ℕ → ℕ → ℕ → Option MakeRefusal
refusal_of slots workers queries =
    if not (is_within 1 MOST_SLOTS slots) then Some BadSlots else
    if not (is_within 1 MOST_WORKERS workers) then Some BadWorkers else
    if nat_lt MOST_QUERIES queries then Some BadQueries else None

-- the result is this refusal; where there is none, what is said of the result holds
abbrev pub IsRefusedBy : {A : Type 0} → Option MakeRefusal → Type 0 → Result A MakeRefusal
    → Type 0
IsRefusedBy refusal answers result = MatchOption refusal answers (λ cause. result ≡ Err cause)

-- the shape of so many slots, workers and queries
abbrev pub shape_with : ℕ → ℕ → ℕ → Shape
shape_with slots workers queries =
    record { workers = workers; slots = slots; queries = queries }
