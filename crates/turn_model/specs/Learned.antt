-- What a worker's own moves tell: where it is, what it knows of each slot, the time that it spent
-- in each query, and the passes of its slots.
use Rattle.std.specs.Prelude.{ℕ, zero, suc, ◌+◌, ◌-◌, ◌*◌, ◌/◌, Bool, true, false, cond, eqb}
use Rattle.std.specs.Prelude.{List, []}
use Rattle.std.specs.Prelude.{◌∷◌, ◌++◌, ◌&&◌, fold, Option, Some, None}
use Rattle.std.specs.Int.{bit_at}
use Rattle.slot_history.specs.declared.shape.TheConstants.{STAGES}
use Rattle.slot_history.specs.declared.act.Act.{Act}
use Rattle.slot_history.specs.declared.act.Act.TheVariants.{Enter, LookOpen, LookInvalid}
use Rattle.slot_history.specs.declared.act.Act.TheVariants.{LookVacant, ClaimRange, ShutWon}
use Rattle.slot_history.specs.declared.act.Act.TheVariants.{ShutLost, Arrivals, Finished}
use Rattle.slot_history.specs.declared.act.Act.TheVariants.{TakeReturn, TakeChange}
use Rattle.slot_history.specs.declared.place.Place.{Place}
use Rattle.slot_history.specs.declared.place.Place.TheVariants.{Free}
use Rattle.slot_history.specs.States.{NoticeRecord, slot_of, id_at}
use Rattle.slot_history.specs.Steps.{moved}
use Rattle.slot_history.specs.Histories.{own_record_after}
use Rattle.stride_set.specs.Strides.{Strides, Call, JoinChange, JoinReturn, DropSlot, Choose}
use Rattle.stride_set.specs.Strides.{Advance, new_strides, stride_after}
use Rattle.prio_decay.specs.declared.TheConstants.{QUANTUM_NS}
use Rattle.prio_decay.specs.declared.Params.{Params}
use Rattle.prio_decay.specs.Priority.{priority_after}
use Rattle.slot_station.specs.Desks.{Desk}
use Rattle.turn_model.specs.Workloads.{Workload}
use Rattle.turn_model.specs.Moves.{Move, Made, Exchanged}

-- the joins of those of the first n slots of a mask word that have their bit, the lowest slot first
unfoldable pub joins : (ℕ → Call) → ℕ → ℕ → ℕ → List Call
joins join zero part bits = []
joins join (suc n) part bits =
    joins join n part bits ++ cond (eqb (bit_at bits n) 1) (join (part * 64 + n) ∷ []) []

-- a slot whose query is not known, or is this one
abbrev pub allows : Option ℕ → ℕ → Bool
allows None q = true
allows (Some group) q = eqb group q

-- a query of this weight: its priority is held for 7 quanta, and then decays to nine tenths each
abbrev pub params_of : ℕ → Params
params_of weight = record { start = 1000 * weight; hold = 7; num = 9; den = 10 }

-- The time spent, the tuples and times of ranges, and the end of the last range, after a call whose
-- range took t. A range counts if it is `here`: of the query, or of the task set.
abbrev pub time_after : Act → ℕ → Bool → ℕ → ℕ
time_after (ClaimRange n from to) t here before = cond here (before + t) before
time_after _ t here before = before

abbrev pub taken_after : Act → ℕ → Bool → List (ℕ × ℕ) → List (ℕ × ℕ)
taken_after (ClaimRange n from to) t here before = cond here (before ++ (to - from, t) ∷ []) before
taken_after _ t here before = before

abbrev pub end_after : Act → Bool → ℕ → ℕ
end_after (ClaimRange n from to) here before = cond here to before
end_after _ here before = before

abbrev pub finished_after : Act → ℕ → ℕ
finished_after (Finished n) before = n
finished_after _ before = before

abbrev pub arrived_after : Act → ℕ → ℕ
arrived_after (Arrivals n) before = n
arrived_after _ before = before

module _ (D : Desk Workload) where
  abbrev pub place_by : List Move → Place
  place_by [] = Free
  place_by (Made a t ∷ ms) = moved D.shape a (place_by ms)
  place_by (Exchanged ∷ ms) = place_by ms

  -- the slot, the task set and the query at which the worker is
  abbrev pub slot_by : List Move → ℕ
  slot_by ms = slot_of (place_by ms)

  abbrev pub task_by : List Move → ℕ
  task_by ms = id_at (place_by ms)

  abbrev pub query_by : List Move → ℕ
  query_by ms = task_by ms / STAGES

  -- the notice record of a slot
  abbrev pub record_by : ℕ → List Move → NoticeRecord
  record_by s [] = record { active = false; group = None }
  record_by s (Made a t ∷ ms) = own_record_after a (place_by ms) s (record_by s ms)
  record_by s (Exchanged ∷ ms) = record_by s ms

  -- the record of the slot at which the worker is allows a query
  abbrev pub lets_in : List Move → ℕ → Bool
  lets_in ms q = allows (record_by (slot_by ms) ms).group q

  -- the task set of the last look at a slot that let the worker in
  abbrev pub let_in_after : Act → ℕ → List Move → Option ℕ → Option ℕ
  let_in_after (LookOpen id) s ms before =
      cond (eqb (slot_by ms) s && lets_in ms (id / STAGES)) (Some id) before
  let_in_after _ s ms before = before

  abbrev pub let_in_by : ℕ → List Move → Option ℕ
  let_in_by s [] = None
  let_in_by s (Made a t ∷ ms) = let_in_after a s ms (let_in_by s ms)
  let_in_by s (Exchanged ∷ ms) = let_in_by s ms

  -- the last answers of `finished` and `arrivals`
  abbrev pub finished_by : List Move → ℕ
  finished_by [] = 0
  finished_by (Made a t ∷ ms) = finished_after a (finished_by ms)
  finished_by (Exchanged ∷ ms) = finished_by ms

  abbrev pub arrived_by : List Move → ℕ
  arrived_by [] = 0
  arrived_by (Made a t ∷ ms) = arrived_after a (arrived_by ms)
  arrived_by (Exchanged ∷ ms) = arrived_by ms

  -- the time that the worker spent in a query
  abbrev pub time_in : ℕ → List Move → ℕ
  time_in q [] = 0
  time_in q (Made a t ∷ ms) = time_after a t (eqb (query_by ms) q) (time_in q ms)
  time_in q (Exchanged ∷ ms) = time_in q ms

  -- the priority that a query has with the worker: it decays with all the time that was spent there
  abbrev pub priority_in : ℕ → List Move → ℕ
  priority_in q ms = priority_after (params_of (D.subject.weight q)) (time_in q ms / QUANTUM_NS)

  -- the tuples and the elapsed times of the worker's ranges of a task set, the first one first
  abbrev pub taken_by : ℕ → List Move → List (ℕ × ℕ)
  taken_by id [] = []
  taken_by id (Made a t ∷ ms) = taken_after a t (eqb (task_by ms) id) (taken_by id ms)
  taken_by id (Exchanged ∷ ms) = taken_by id ms

  -- where the worker's last range of a task set ended, 0 before one
  abbrev pub last_end : ℕ → List Move → ℕ
  last_end id [] = 0
  last_end id (Made a t ∷ ms) = end_after a (eqb (task_by ms) id) (last_end id ms)
  last_end id (Exchanged ∷ ms) = last_end id ms

  -- What a call after these moves does to the passes; work on the range that it got took t. Notices
  -- let slots join. The slot that is entered sets the floor. A range advances its slot by its time,
  -- at the priority before that time is spent. A slot is dropped once it has no task set for the
  -- worker.
  abbrev pub calls_of : Act → ℕ → List Move → List Call
  calls_of (TakeReturn part bits) t ms = joins JoinReturn 64 part bits
  calls_of (TakeChange part bits) t ms = joins JoinChange 64 part bits
  calls_of (Enter s) t ms = Choose s ∷ []
  calls_of (LookOpen id) t ms = cond (lets_in ms (id / STAGES)) [] (DropSlot (slot_by ms) ∷ [])
  calls_of LookInvalid t ms = DropSlot (slot_by ms) ∷ []
  calls_of LookVacant t ms = DropSlot (slot_by ms) ∷ []
  calls_of (ClaimRange n from to) t ms =
      Advance (slot_by ms) t (priority_in (query_by ms) ms) ∷ []
  calls_of ShutWon t ms = DropSlot (slot_by ms) ∷ []
  calls_of ShutLost t ms = DropSlot (slot_by ms) ∷ []
  calls_of _ t ms = []

  -- the active slots, their passes, the floor, the largest advance and the widest gap
  abbrev pub strides_by : List Move → Strides
  strides_by [] = new_strides D.shape.slots
  strides_by (Made a t ∷ ms) = fold stride_after (strides_by ms) (calls_of a t ms)
  strides_by (Exchanged ∷ ms) = strides_by ms
