-- What a range changes of what a worker keeps.
use Rattle.std.specs.Prelude.{◌≡◌, ℕ, ◌/◌, ◌<◌, ◌≤◌, List, [], ◌∷◌, ◌++◌, Some, cond, eqb}
use Rattle.std.specs.Prelude.{slice_get}
use Rattle.stride_set.specs.Strides.{Advance, strides_of, stride_after}
use Rattle.prio_decay.specs.declared.TheConstants.{QUANTUM_NS}
use Rattle.prio_decay.specs.Priority.{HasSpent, priority_after}
use Rattle.turn_model.specs.Fitting.{Range}
use Rattle.turn_model.specs.Keeping.{spent_on}
use Rattle.worker_machine.specs.declared.kept.Core.{Core}
use Rattle.worker_machine.specs.declared.kept.Known.{Known}
use Rattle.std.specs.Vec.{vec_capacity}
use Rattle.turn_model.specs.Shares.{Worked}
use Rattle.turn_model.specs.Shares.{AscendWithin, counted}
use Rattle.worker_machine.specs.Keeps.{kept_of}

-- the range is spent in what is known of its slot, and what is known of the others stays
abbrev pub AreSpentOn : Range → List Known → List Known → Type 0
AreSpentOn range old new = (s : ℕ) (known : Known) → slice_get new s ≡ Some known
    → (before : Known) × (slice_get old s ≡ Some before)
    × (kept_of known ≡ cond (eqb s range.slot) (spent_on range (kept_of before)) (kept_of before))

-- the priority of what is known, for all time that its decay has spent
abbrev pub IsPriorityOf : Known → ℕ → Type 0
IsPriorityOf known priority = (total : ℕ) → HasSpent known.decay total
    → priority ≡ priority_after known.decay.params (total / QUANTUM_NS)

-- A range was worked on. Its priority is the one that its query had before, and its slot advances
-- by its time at that priority.
pub record WorkedOn (range : Range) (old new : Core) : Type 0 where
  pub priority : (known : Known) → slice_get old.known.items range.slot ≡ Some known
      → IsPriorityOf known range.priority
  pub strides : strides_of new.strides
      ≡ stride_after (strides_of old.strides) (Advance range.slot range.time range.priority)
  pub known : AreSpentOn range old.known.items new.known.items
  pub times : new.times ≡ old.times ++ range.time ∷ []
  pub finished : new.finished ≡ old.finished
  pub arrived : new.arrived ≡ old.arrived

-- the range is counted in the share of its query, if there is room for a share of each query
pub record SharesCount (range : Worked) (old new : Core) : Type 0 where
  pub room : vec_capacity old.shares ≤ vec_capacity new.shares
  pub counts : (queries : ℕ) → AscendWithin 0 queries old.shares.items → range.query < queries
      → queries ≤ vec_capacity old.shares → new.shares.items ≡ counted range old.shares.items
