-- Why a run on one thread ends: an account of the task sets that are done, and five numbers that
-- whole turns lower.
use Rattle.std.specs.Prelude.{◌≡◌, ℕ, ◌+◌, ◌-◌, ◌*◌, ◌%◌, ◌^◌, ◌<◌, ◌≤◌, Bool, true, false}
use Rattle.std.specs.Prelude.{cond, eqb, ltb, Option, Some, None}
use Rattle.slot_history.specs.declared.shape.Shape.{Shape}
use Rattle.slot_history.specs.declared.shape.TheConstants.{STAGES}
use Rattle.slot_history.specs.Sets.{least, sum_below, count_of}
use Rattle.slot_history.specs.States.{SlotState, Empty, Reserved, Open, Shut, Finishing}
use Rattle.slot_history.specs.States.{ObjectState, task_of}
use Rattle.slot_history.specs.Lives.{query_in}
use Rattle.turn_model.specs.declared.turn.Turn.TheVariants.{Over}
use Rattle.turn_model.specs.Workloads.{Workload, sets_of}
use Rattle.turn_model.specs.Points.{Point, Ready}
use Rattle.turn_model.specs.Runs.{Run}
use Rattle.turn_model.specs.Orders.{point_in}

-- each query arrives at the latest when all task sets of the queries before it are done
abbrev pub ArriveInTime : Shape → Workload → Type 0
ArriveInTime d load = (q : ℕ) → q < d.queries → load.after q ≤ sum_below q load.stages

-- ---- the account

abbrev pub is_query : Option ℕ → ℕ → Bool
is_query None q = false
is_query (Some r) q = eqb r q

-- the slot that serves a query, or the number of slots if none does
abbrev pub slot_serving : Shape → ObjectState → ℕ → ℕ
slot_serving d S q = least d.slots (λ s. is_query (query_in (S.slots s)) q)

-- how many task sets of its query are done, by the slot that serves it
abbrev pub done_in : SlotState → ℕ
done_in Empty = 0
done_in (Reserved w held) = held.noted
done_in (Open t) = t.id % STAGES
done_in (Shut t end) = t.id % STAGES
done_in (Finishing id w held) = id % STAGES + held.noted

-- how many task sets of an admitted query are done: all, if no slot serves it any more
abbrev pub done_of : Shape → Workload → ObjectState → ℕ → ℕ
done_of d load S q = let s = slot_serving d S q in
    cond (ltb s d.slots) (done_in (S.slots s)) (load.stages q)

-- The number of task sets noted as done is the sum over the admitted queries. While a slot serves a
-- query, at most all its task sets are done.
pub record IsAccount (d : Shape) (load : Workload) (S : ObjectState) : Type 0 where
  pub sum : S.finished ≡ sum_below S.admitted (done_of d load S)
  pub within : (q : ℕ) → q < S.admitted → done_of d load S q ≤ load.stages q

-- ---- the numbers

-- task sets that were not noted as done
abbrev pub unnoted : Shape → Workload → ObjectState → ℕ
unnoted d load S = sets_of d load - S.finished

-- tuples of the task sets in slots that were not claimed
abbrev pub unclaimed : Shape → ObjectState → ℕ
unclaimed d S = sum_below d.slots (λ s. (task_of (S.slots s)).total - (task_of (S.slots s)).cursor)

-- for how many workers and slots a test holds
abbrev pub count_all : Shape → (ℕ → ℕ → Bool) → ℕ
count_all d f = sum_below d.workers (λ w. count_of d.slots (f w))

-- twice the pending notices plus the active records
abbrev pub notices : Shape → ObjectState → ℕ
notices d S = 2 * (count_all d S.changes + count_all d S.returns)
    + count_all d (λ w s. (S.records w s).active)

-- Dictionary order of the numbers: one of them falls, and those before it stay.
pub data Falls (d : Shape) (load : Workload) (S T : ObjectState) : Type 0 where
  admits : S.admitted < T.admitted → T.admitted ≤ d.queries → Falls d load S T
  notes : T.admitted ≡ S.admitted → unnoted d load T < unnoted d load S → Falls d load S T
  claims : T.admitted ≡ S.admitted → unnoted d load T ≡ unnoted d load S
      → unclaimed d T < unclaimed d S → Falls d load S T
  drops : T.admitted ≡ S.admitted → unnoted d load T ≡ unnoted d load S
      → unclaimed d T ≡ unclaimed d S → notices d T < notices d S → Falls d load S T

abbrev pub is_over : Point → Bool
is_over (Ready Over) = true
is_over x = false

abbrev pub not_over : Shape → Workload → Run → ℕ
not_over d load run = count_of d.workers (λ w. cond (is_over (point_in d load run w)) false true)

-- the five numbers
pub record Left : Type 0 where
  pub queries : ℕ
  pub sets : ℕ
  pub tuples : ℕ
  pub notices : ℕ
  pub workers : ℕ

abbrev pub left_in : Shape → Workload → ObjectState → ℕ → Left
left_in d load S workers = record {
  queries = d.queries - S.admitted;
  sets = unnoted d load S;
  tuples = unclaimed d S;
  notices = notices d S;
  workers = workers;
}

-- the numbers but the first are within what the limits of an object allow
pub record IsLow (left : Left) : Type 0 where
  pub sets : left.sets < 2 ^ 16
  pub tuples : left.tuples < 2 ^ 40
  pub notices : left.notices < 2 ^ 17
  pub workers : left.workers < 2 ^ 7

-- as one number, whose order is that of a dictionary while the numbers are low
abbrev pub as_one : Left → ℕ
as_one left = (((left.queries * 2 ^ 16 + left.sets) * 2 ^ 40 + left.tuples) * 2 ^ 17 + left.notices)
    * 2 ^ 7 + left.workers

-- ---- the law, as the function of module `laws` states it

-- if the numbers fall, so does the one number, however many workers are not over
abbrev pub FallsAsOne : Type 0
FallsAsOne = (d : Shape) (load : Workload) (S T : ObjectState) (before after : ℕ)
    → Falls d load S T → IsLow (left_in d load T after)
    → as_one (left_in d load T after) < as_one (left_in d load S before)
