-- What a decay, a sizer and a set of strides have to do with the worker's moves, and that a range
-- keeps it.
use Rattle.std.specs.Prelude.{◌≡◌, ℕ, ◌-◌, ◌/◌, List, [], ◌∷◌, ◌++◌, fold, Some}
use Rattle.slot_history.specs.declared.shape.TheConstants.{STAGES}
use Rattle.slot_history.specs.declared.act.Act.TheVariants.{ClaimRange}
use Rattle.slot_history.specs.declared.place.Place.TheVariants.{Inside}
use Rattle.stride_set.specs.Strides.{Strides, Call, Advance, new_strides, stride_after}
use Rattle.prio_decay.specs.Priority.{Spending, after_spending}
use Rattle.morsel_size.specs.Sizing.{pace_after, size_at}
use Rattle.slot_station.specs.Desks.{Desk}
use Rattle.turn_model.specs.Workloads.{Workload}
use Rattle.turn_model.specs.Moves.{Move, Made, Exchanged}
use Rattle.turn_model.specs.Learned.{place_by, calls_of}
use Rattle.turn_model.specs.Learned.{strides_by, priority_in}
use Rattle.turn_model.specs.Driven.{size_by}
use Rattle.turn_model.specs.Told.{Sized, HasTimeIn, HasRangesOf, past_by}

-- the passes of a worker, and the decay and the sizer of the slot at which it is
pub record AtWork : Type 0 where
  pub strides : Strides
  pub decay : Spending
  pub sized : Sized

-- a range on which it worked: its tuples, its time, and the priority of its query before that time
pub record Range : Type 0 where
  pub slot : ℕ
  pub from : ℕ
  pub to : ℕ
  pub time : ℕ
  pub priority : ℕ

-- they are of a task set and of the moves that were made
pub record AreOfTask (D : Desk Workload) (ms : List Move) (id : ℕ) (work : AtWork) : Type 0 where
  pub strides_are : work.strides ≡ strides_by D ms
  pub time : HasTimeIn D (past_by D ms) (id / STAGES) work.decay
  pub ranges : HasRangesOf D (past_by D ms) id work.sized

-- the same after the range
abbrev pub worked : AtWork → Range → AtWork
worked work range = record {
  strides = stride_after work.strides (Advance range.slot range.time range.priority);
  decay = after_spending work.decay range.time;
  sized = record {
    sizing = record {
      workers = work.sized.sizing.workers;
      pace = pace_after work.sized.sizing.pace (range.to - range.from) range.time;
    };
    end = range.to;
  };
}

-- ---- the laws, as the functions of module `laws` state them

-- a sizer that has the ranges of the moves gives the size of the next claim
abbrev pub SizeFits : Type 0
SizeFits = (D : Desk Workload) (ms : List Move) (s id total : ℕ) (sized : Sized)
    → place_by D ms ≡ Inside s id → D.subject.total id ≡ Some total
    → HasRangesOf D (past_by D ms) id sized
    → size_by D ms ≡ size_at sized.sizing.workers sized.sizing.pace (total - sized.end)

-- what `spend`, `took` and `advance` do for a range is what the moves with that range give
abbrev pub RangeFits : Type 0
RangeFits = (D : Desk Workload) (ms : List Move) (id n : ℕ) (range : Range) (work : AtWork)
    → place_by D ms ≡ Inside range.slot id → range.priority ≡ priority_in D (id / STAGES) ms
    → AreOfTask D ms id work
    → AreOfTask D (Made (ClaimRange n range.from range.to) range.time ∷ ms) id (worked work range)

-- the passes are those after one list of calls of a stride set
abbrev pub all_calls : Desk Workload → List Move → List Call
all_calls D [] = []
all_calls D (Made a t ∷ ms) = all_calls D ms ++ calls_of D a t ms
all_calls D (Exchanged ∷ ms) = all_calls D ms

abbrev pub StridesAreCalls : Type 0
StridesAreCalls = (D : Desk Workload) (ms : List Move)
    → strides_by D ms ≡ fold stride_after (new_strides D.shape.slots) (all_calls D ms)
