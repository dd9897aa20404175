-- All that a worker's moves tell, in one record, and what a decay and a sizer have to do with it.
use Rattle.std.specs.Prelude.{◌≡◌, ℕ, ◌/◌, List, Option, Some}
use Rattle.std.specs.Option.{option_map}
use Rattle.slot_history.specs.declared.shape.TheConstants.{STAGES}
use Rattle.stride_set.specs.Strides.{Strides}
use Rattle.prio_decay.specs.Priority.{Spending, HasSpent}
use Rattle.morsel_size.specs.Sizing.{Sizing, pace_of}
use Rattle.slot_station.specs.Desks.{Desk}
use Rattle.turn_model.specs.Workloads.{Workload}
use Rattle.turn_model.specs.Moves.{Move, times_of}
use Rattle.turn_model.specs.Learned.{params_of, record_by, let_in_by, finished_by, arrived_by}
use Rattle.turn_model.specs.Learned.{time_in, taken_by, last_end, strides_by}

-- what its looks and its ranges tell
pub record Past : Type 0 where
  -- of a slot: the query of its notice record, and the task set to which the last look let it in
  pub group : ℕ → Option ℕ
  pub task : ℕ → Option ℕ
  -- the time in a query
  pub time : ℕ → ℕ
  -- of a task set: the ranges, and the end of the last one
  pub taken : ℕ → List (ℕ × ℕ)
  pub end : ℕ → ℕ

pub record Told : Type 0 where
  pub strides : Strides
  pub finished : ℕ
  pub arrived : ℕ
  pub times : List ℕ
  pub past : Past

abbrev pub past_by : Desk Workload → List Move → Past
past_by D ms = record {
  group = λ s. (record_by D s ms).group;
  task = λ s. let_in_by D s ms;
  time = λ q. time_in D q ms;
  taken = λ id. taken_by D id ms;
  end = λ id. last_end D id ms;
}

abbrev pub told_by : Desk Workload → List Move → Told
told_by D ms = record {
  strides = strides_by D ms;
  finished = finished_by D ms;
  arrived = arrived_by D ms;
  times = times_of ms;
  past = past_by D ms;
}

-- a sizer, and the end of the last range that it was told of
pub record Sized : Type 0 where
  pub sizing : Sizing
  pub end : ℕ

-- what is kept of a slot: its group, a decay with the query that it is of, and a sizer with the
-- task set that it is of
pub record Kept : Type 0 where
  pub group : Option ℕ
  pub query : Option ℕ
  pub decay : Spending
  pub id : Option ℕ
  pub sized : Sized

module _ (D : Desk Workload) (past : Past) where
  -- the decay has all the time that the worker spent in the query
  pub record HasTimeIn (q : ℕ) (decay : Spending) : Type 0 where
    pub params : decay.params ≡ params_of (D.subject.weight q)
    pub spent : HasSpent decay (past.time q)

  -- the sizer has all of the worker's ranges of the task set
  pub record HasRangesOf (id : ℕ) (sized : Sized) : Type 0 where
    pub workers : sized.sizing.workers ≡ D.shape.workers
    pub pace : sized.sizing.pace ≡ pace_of (past.taken id)
    pub end_is : sized.end ≡ past.end id

  -- The group of the slot is that of its notice record. The decay and the sizer are of the task set
  -- to which the last look let the worker in.
  pub record KeepsSlot (s : ℕ) (kept : Kept) : Type 0 where
    pub group : kept.group ≡ past.group s
    pub id : kept.id ≡ past.task s
    pub query : kept.query ≡ option_map (λ id. id / STAGES) (past.task s)
    pub decay : (q : ℕ) → kept.query ≡ Some q → HasTimeIn q kept.decay
    pub sizer : (id : ℕ) → kept.id ≡ Some id → HasRangesOf id kept.sized
