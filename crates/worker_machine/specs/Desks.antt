-- The desk of a worker, by its fields, and what its phase says of them.
use Rattle.std.specs.Prelude.{◌≡◌, ℕ, ◌+◌, ◌/◌, ◌<◌, length, Some, slice_get}
use Rattle.std.specs.Arc.{arc_value}
use Rattle.slot_station.specs.Desks.{Desk, Seen}
use Rattle.stride_set.specs.Strides.{strides_of, MayAdvance}
use Rattle.bench_cell.specs.declared.plan.Plan.{Plan}
use Rattle.slot_history.specs.declared.shape.TheConstants.{STAGES}
use Rattle.worker_machine.specs.Plans.{IsTask}
use Rattle.worker_machine.specs.Benches.{AreFresh}
use Rattle.worker_machine.specs.declared.kept.Core.{Core}
use Rattle.worker_machine.specs.declared.kept.Known.{Known}
use Rattle.worker_machine.specs.declared.phase.Phase.{Phase}
use Rattle.worker_machine.specs.declared.phase.Phase.TheVariants.{Scan, Admit, Enter, Look, Take}
use Rattle.worker_machine.specs.declared.phase.Phase.TheVariants.{Claim}

abbrev pub desk_of : Core → Desk Plan
desk_of core = record {
  worker = core.worker;
  shape = record {
    workers = core.workers;
    slots = core.slots;
    queries = length (arc_value core.plan).queries.items;
  };
  subject = arc_value core.plan;
}

abbrev pub HasDesk : Core → Desk Plan → Type 0
HasDesk core desk = desk_of core ≡ desk

-- what no call changes: the station's origin and its desk
pub record Stays {O Sub : Type 0} (old new : Seen O Sub) : Type 0 where
  pub origin : new.origin ≡ old.origin
  pub desk : new.desk ≡ old.desk

-- the next query to arrive is one of the plan
abbrev pub HasNext : Core → Type 0
HasNext core = core.arrived < length (arc_value core.plan).queries.items

-- the slot's sizer is of the task set
abbrev pub IsSizerOf : Core → ℕ → ℕ → Type 0
IsSizerOf core s id = (known : Known) → slice_get core.known.items s ≡ Some known
    → known.id ≡ Some id

-- the slot was chosen, and has not advanced since
abbrev pub IsChosen : Core → ℕ → Type 0
IsChosen core s = MayAdvance (strides_of core.strides) s

-- the benches of the task set after this one, of the same query, are in hand
pub record AreNextMade (core : Core) (id : ℕ) : Type 0 where
  pub query : (id + 1) / STAGES ≡ id / STAGES
  pub task : IsTask (arc_value core.plan) (id + 1)
  pub count : length core.benches.items ≡ core.workers
  pub fresh : AreFresh (arc_value core.plan) (id + 1) core.workers core.benches.items

-- what the phase asks of what the worker keeps
abbrev pub CoreFits : Core → Phase → Type 0
CoreFits core (Scan s) = HasNext core
CoreFits core (Admit h) = HasNext core
CoreFits core (Enter s) = IsChosen core s
CoreFits core (Look s) = IsChosen core s
CoreFits core (Take s id) = IsChosen core s × IsSizerOf core s id
CoreFits core (Claim s id b) = IsChosen core s × IsSizerOf core s id
CoreFits core _ = Unit {0}
