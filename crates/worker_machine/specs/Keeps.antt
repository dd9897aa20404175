-- What a worker keeps, by its moves, and what one move of it is.
use Rattle.std.specs.Prelude.{◌≡◌, ℕ, List, [], ◌∷◌, ◌≤◌, Some, None, slice_get}
use Rattle.std.specs.Arc.{arc_value}
use Rattle.std.specs.Vec.{vec_capacity}
use Rattle.slot_history.specs.declared.shape.Shape.{Shape}
use Rattle.slot_history.specs.declared.act.Entry.{Entry}
use Rattle.slot_history.specs.Histories.{own_calls}
use Rattle.stride_set.specs.Strides.{Strides, Choose, strides_of, new_strides, stride_after}
use Rattle.stride_set.specs.Strides.{choice_of}
use Rattle.slot_station.specs.Desks.{Desk, Seen}
use Rattle.turn_model.specs.Workloads.{Workload, sets_of}
use Rattle.turn_model.specs.Moves.{Move, entries}
use Rattle.turn_model.specs.Told.{Told, Kept, KeepsSlot, told_by}
use Rattle.turn_model.specs.Points.{point_by, picked, ended_as}
use Rattle.turn_model.specs.Driven.{May, AreDriven}
use Rattle.turn_model.specs.Runs.{IsTimed}
use Rattle.bench_cell.specs.declared.plan.Plan.{Plan}
use Rattle.bench_cell.specs.Plans as plans
use Rattle.worker_machine.specs.declared.kept.Core.{Core}
use Rattle.worker_machine.specs.declared.kept.Known.{Known}
use Rattle.worker_machine.specs.declared.phase.Phase.{Phase}
use Rattle.worker_machine.specs.declared.phase.Phase.TheVariants.{Enter}
use Rattle.worker_machine.specs.Desks.{desk_of}
use Rattle.turn_model.specs.Shares.{shares_by}
use Rattle.worker_machine.specs.Counting.{HasShares}
use Rattle.worker_machine.specs.Replies.{AreAnswers}
use Rattle.turn_model.specs.Endings.{work_by}
use Rattle.worker_machine.specs.Telling.{Tells}
use Rattle.worker_machine.specs.Loads.{load_of, model_desk}
use Rattle.worker_machine.specs.PointsOf.{point_of}

-- from the choice of a slot to its enter, the floor is already the pass of that slot
abbrev pub chosen : Phase → Strides → Strides
chosen (Enter s) st = stride_after st (Choose s)
chosen _ st = st

abbrev pub kept_of : Known → Kept
kept_of known = record {
  group = known.group;
  query = known.query;
  decay = known.decay;
  id = known.id;
  sized = record { sizing = known.sizer; end = known.last_end };
}

-- what a worker keeps at a phase, by what its moves tell
pub record Knows (D : Desk Workload) (told : Told) (core : Core) (phase : Phase) : Type 0 where
  pub strides : strides_of core.strides ≡ chosen phase told.strides
  pub finished : core.finished ≡ told.finished
  pub arrived : core.arrived ≡ told.arrived
  pub times : core.times ≡ told.times
  pub slots : (s : ℕ) (known : Known) → slice_get core.known.items s ≡ Some known
      → KeepsSlot D told.past s (kept_of known)

-- nothing is known of a slot
pub record IsUnknown (known : Known) : Type 0 where
  pub group : known.group ≡ None
  pub query : known.query ≡ None
  pub id : known.id ≡ None

-- what a worker keeps that has made no move
pub record IsUntold (shape : Shape) (core : Core) : Type 0 where
  pub strides : strides_of core.strides ≡ new_strides shape.slots
  pub finished : core.finished ≡ 0
  pub arrived : core.arrived ≡ 0
  pub times : core.times ≡ []
  pub slots_are : (s : ℕ) (known : Known) → slice_get core.known.items s ≡ Some known
      → IsUnknown known
  pub shares : HasShares shape.queries [] core.shares
  pub replies : core.replies.items ≡ []
  pub records : core.records.items ≡ []
  pub reply_room : shape.queries ≤ vec_capacity core.replies
  pub record_room : plans.sets_of (arc_value core.plan) ≤ vec_capacity core.records

-- the numbers, the times, the shares and what is known of slots stay; the passes may change
pub record KeepsRest (old new : Core) : Type 0 where
  pub known : new.known ≡ old.known
  pub finished : new.finished ≡ old.finished
  pub arrived : new.arrived ≡ old.arrived
  pub times : new.times ≡ old.times
  pub shares : new.shares ≡ old.shares

-- all that moves tell stays; benches, replies and records may change
pub record KeepsMind (old new : Core) : Type 0 where
  pub strides : new.strides ≡ old.strides
  pub rest : KeepsRest old new

-- the slot of least pass was chosen, or the turn ends, since no slot is active
pub record Picks (old new : Core) (phase : Phase) : Type 0 where
  pub strides : strides_of new.strides ≡ chosen phase (strides_of old.strides)
  pub point : (workers : ℕ) → point_of workers phase ≡ picked (choice_of (strides_of old.strides))
      (ended_as old.finished (sets_of (desk_of old).shape (load_of (arc_value old.plan))))
  pub rest : KeepsRest old new

-- a worker at a phase, with its desk and its trail
pub record Standing : Type 0 where
  pub core : Core
  pub phase : Phase
  pub desk : Desk Plan
  pub trail : List Entry

abbrev pub standing : {O : Type 0} → Core → Phase → Seen O Plan → Standing
standing core phase seen = record {
  core = core;
  phase = phase;
  desk = seen.desk;
  trail = seen.trail;
}

-- The worker has made these moves: they are whole turns and at most a turn under way, its calls are
-- its own in the trail, it keeps what they tell, its phase is the point where they lead, and its
-- shares are those of its ranges. Its replies are right.
pub record HasMade (at : Standing) (ms : List Move) : Type 0 where
  pub driven : AreDriven (model_desk at.desk) ms
  pub mine : own_calls at.desk.worker at.trail ≡ entries at.desk.worker ms
  pub knows : Knows (model_desk at.desk) (told_by (model_desk at.desk) ms) at.core at.phase
  pub point : point_of at.desk.shape.workers at.phase ≡ point_by (model_desk at.desk) ms
  pub shares : HasShares at.desk.shape.queries (shares_by (model_desk at.desk) ms) at.core.shares
  pub answers : AreAnswers at.desk.subject at.core.replies.items
  pub told : Tells (model_desk at.desk) at.trail (work_by (model_desk at.desk) ms) at.core at.phase

-- The worker makes one move, whatever moves it has made: one that comes next, with a time that the
-- meter may have answered.
pub record Moves (may_take : ℕ → ℕ → ℕ → Type 0) (from to : Standing) : Type 0 where
  pub move : Move
  pub may : (ms : List Move) → HasMade from ms → May (model_desk from.desk) ms move
  pub timed : (ms : List Move) → HasMade from ms → IsTimed may_take (model_desk from.desk) ms move
  pub made : (ms : List Move) → HasMade from ms → HasMade to (move ∷ ms)

-- no time may be taken: such a move works on no range
abbrev pub takes_none : ℕ → ℕ → ℕ → Type 0
takes_none tuples cost ns = ⊥
