-- The laws of legal histories, as the functions of module `laws` state them.
use Rattle.std.specs.Prelude.{◌≡◌, ◌≢◌, ℕ, ◌+◌, ◌/◌, ◌%◌, ◌<◌, ◌≤◌, ◌⊎◌, true, false, List, [], ◌∷◌}
use Rattle.std.specs.Prelude.{min, Some, All, AllPairs}
use Rattle.slot_history.specs.declared.shape.Shape.{Shape}
use Rattle.slot_history.specs.declared.shape.TheConstants.{STAGES}
use Rattle.slot_history.specs.declared.act.Act.{Act}
use Rattle.slot_history.specs.declared.act.Act.TheVariants.{ClaimRange, LeaveOwe, Install}
use Rattle.slot_history.specs.declared.act.Entry.{Entry}
use Rattle.slot_history.specs.States.{TaskSet, Ending, Shut, Finishing, task_of, ObjectState}
use Rattle.slot_history.specs.States.{slot_of, id_of, is_empty, is_open, is_shut, owes, is_inside}
use Rattle.slot_history.specs.States.{has_own_cell, HasCell}
use Rattle.slot_history.specs.Steps.{moved, state_after}
use Rattle.slot_history.specs.Allowed.{IsAllowed}
use Rattle.slot_history.specs.Histories.{IsLegal, Called, entry, own_calls, place_of, ranges_of}
use Rattle.slot_history.specs.Histories.{ranges_after, ranges_by, own_record, own_record_after}
use Rattle.slot_history.specs.Histories.{Morsel, claims_of, Tiles, installs_of, admits_of, lasts_of}
use Rattle.slot_history.specs.Histories.{total_of, FinalisedOnce, slot_with, task_in, Begins}
use Rattle.slot_history.specs.declared.place.Held.{Held}
use Rattle.slot_history.specs.declared.place.Place.TheVariants.{Inside, Leading}
use Rattle.slot_history.specs.Lives.{has_task}
use Rattle.slot_history.specs.Notices.{IsQuiet}
use Rattle.slot_history.specs.Table.{owing}

-- in every state of every legal history
abbrev pub Always : (Shape → ObjectState → Type 0) → Type 0
Always P = (d : Shape) (h : List Entry) → IsLegal d h → P d (state_after d h)

-- while all workers are free, every slot is empty or open
abbrev pub QuietSlots : Shape → ObjectState → Type 0
QuietSlots d S = IsQuiet d S → (s : ℕ)
    → (is_empty (S.slots s) ≡ true) ⊎ (is_open (S.slots s) ≡ true)

-- if a worker is inside a slot with an id, the slot is open or shut with this id
abbrev pub InsideSlots : Shape → ObjectState → Type 0
InsideSlots d S = (s v id : ℕ) → v < d.workers → has_own_cell (S.places v) s ≡ true
    → is_inside (S.places v) id ≡ true
    → ((is_open (S.slots s) ≡ true) ⊎ (is_shut (S.slots s) ≡ true)) × (id_of (S.slots s) ≡ id)

-- a worker is marked without having paid at one slot at most
abbrev pub OneDebt : Shape → ObjectState → Type 0
OneDebt d S = (s other v : ℕ) → v < d.workers
    → owes (S.slots s) v ≡ true → owes (S.slots other) v ≡ true → s ≡ other

-- a worker inside a shut slot is marked and has not paid, or was not asked yet, or is the
-- coordinator
abbrev pub ShutInside : Shape → ObjectState → Type 0
ShutInside d S = (s v : ℕ) (t : TaskSet) (end : Ending) → v < d.workers → S.slots s ≡ Shut t end
    → has_own_cell (S.places v) s ≡ true
    → (owing end v ≡ true) ⊎ ((end.asked v ≡ false) ⊎ (v ≡ end.coordinator))

-- a coordinator that is still at its slot owes nothing there
abbrev pub CoordinatorOwesNothing : Shape → ObjectState → Type 0
CoordinatorOwesNothing d S = (s id w : ℕ) → w < d.workers → S.places w ≡ Leading s id
    → owes (S.slots s) w ≡ false

-- a cell is with at most one worker
abbrev pub OneOwner : Shape → ObjectState → Type 0
OneOwner d S = (s v w u : ℕ) → w < d.workers → u < d.workers
    → HasCell S s v w → HasCell S s v u → w ≡ u

-- a worker's place, with the numbers of its tokens, its claims and its notice records are given by
-- its own entries
pub record IsOwn (d : Shape) (h : List Entry) (w : ℕ) : Type 0 where
  pub place : place_of d h w ≡ place_of d (own_calls w h) w
  pub ranges : (id : ℕ) → ranges_of d w id h ≡ ranges_of d w id (own_calls w h)
  pub records : (s : ℕ) → own_record d w s h ≡ own_record d w s (own_calls w h)

abbrev pub OwnEntries : Shape → List Entry → Type 0
OwnEntries d h = (w : ℕ) → IsOwn d h w

-- the notice records of a state are those that the workers' own calls give
abbrev pub OwnRecords : Shape → List Entry → Type 0
OwnRecords d h = (w s : ℕ) → (state_after d h).records w s ≡ own_record d w s h

-- What a worker knows of its call e, by its trails before and after. Its place, its claims and its
-- notice records go on from those that the trail before gave. The call was allowed, with its
-- answer, after a legal history in which the worker was at that place.
pub record IsCallFrom (d : Shape) (e : Entry) (old new : List Entry) : Type 0 where
  pub place : place_of d new e.worker ≡ moved d e.act (place_of d old e.worker)
  pub ranges : (id : ℕ) → ranges_of d e.worker id new
      ≡ ranges_after e.act (place_of d old e.worker) id (ranges_of d e.worker id old)
  pub allowed : (h : List Entry) × (new ≡ e ∷ h) × IsLegal d h × (e.worker < d.workers)
      × IsAllowed d (state_after d h) e.worker e.act
      × (place_of d h e.worker ≡ place_of d old e.worker)
  pub records : (s : ℕ) → own_record d e.worker s new
      ≡ own_record_after e.act (place_of d old e.worker) s (own_record d e.worker s old)

abbrev pub CallsGoOn : Type 0
CallsGoOn = (d : Shape) (w : ℕ) (a : Act) (old new : List Entry)
    → Called d (entry w a) old new → IsCallFrom d (entry w a) old new

-- a worker whose leave answers that it owes was not the coordinator
abbrev pub CoordinatorLeaves : Type 0
CoordinatorLeaves = (d : Shape) (w s id jd : ℕ) (old new : List Entry)
    → Called d (entry w (LeaveOwe jd)) old new
    → place_of d old w ≢ Leading s id

-- after every legal history
abbrev pub AfterAll : (Shape → List Entry → Type 0) → Type 0
AfterAll P = (d : Shape) (h : List Entry) → IsLegal d h → P d h

-- each task set is installed, and each query admitted, at most once
abbrev pub OnlyOnce : Shape → List Entry → Type 0
OnlyOnce d h = ((id : ℕ) → installs_of id h ≤ 1) × ((q : ℕ) → admits_of q h ≤ 1)

-- what a claim gets begins where all that was claimed of its id before ended, or later
abbrev pub ClaimsGoOn : Type 0
ClaimsGoOn = (d : Shape) (w n from to s id : ℕ) (h : List Entry)
    → IsLegal d (entry w (ClaimRange n from to) ∷ h)
    → place_of d h w ≡ Inside s id → All (λ (m : Morsel). m.to ≤ from) (claims_of d id h)

-- the same of the worker's own ranges, by its trail before the call
abbrev pub RangesGoOn : Type 0
RangesGoOn = (d : Shape) (w n from to s id : ℕ) (old new : List Entry)
    → Called d (entry w (ClaimRange n from to)) old new
    → place_of d old w ≡ Inside s id
    → All (λ (range : ℕ × ℕ). range.1 ≤ from) (ranges_of d w id old)

-- of two claims of an id the later begins where the earlier ended, or later; and so of two ranges
-- of a worker
pub record AreApart (d : Shape) (h : List Entry) : Type 0 where
  pub claims : (id : ℕ)
      → AllPairs (λ (later earlier : Morsel). earlier.to ≤ later.from) (claims_of d id h)
  pub ranges : (w id : ℕ)
      → AllPairs (λ (later earlier : ℕ × ℕ). earlier.1 ≤ later.0) (ranges_of d w id h)

-- a task set that was never installed has no claims
abbrev pub NoEarlyClaims : Shape → List Entry → Type 0
NoEarlyClaims d h = (id : ℕ) → installs_of id h ≡ 0
    → (claims_of d id h ≡ []) × ((w : ℕ) → ranges_of d w id h ≡ [])

-- the ranges of a worker are those of its claims
abbrev pub RangesOfClaims : Shape → List Entry → Type 0
RangesOfClaims d h = (w id : ℕ) → ranges_of d w id h ≡ ranges_by w (claims_of d id h)

-- the task set of a slot that is open or shut has the total of its install, and its claims tile the
-- lesser of its cursor and its total
abbrev pub TilesCursor : Shape → List Entry → Type 0
TilesCursor d h = (s : ℕ) → has_task ((state_after d h).slots s) ≡ true
    → let t = task_of ((state_after d h).slots s) in
    (total_of d t.id h ≡ Some t.total) × Tiles (claims_of d t.id h) (min t.cursor t.total)

-- the claims of a shut task set tile its total; a finalised task set was installed with a total,
-- which its claims tile
abbrev pub TilesTotal : Shape → List Entry → Type 0
TilesTotal d h = ((s : ℕ) → is_shut ((state_after d h).slots s) ≡ true
    → let t = task_of ((state_after d h).slots s) in Tiles (claims_of d t.id h) t.total)
    × ((id : ℕ) → 0 < lasts_of d id h
    → (total : ℕ) × (total_of d id h ≡ Some total) × Tiles (claims_of d id h) total)

-- a slot is finishing an id only after a call on this id was answered Last
abbrev pub FinishingLast : Shape → List Entry → Type 0
FinishingLast d h = (s id w : ℕ) (held : Held) → (state_after d h).slots s ≡ Finishing id w held
    → 0 < lasts_of d id h

-- each finalised task set was finalised exactly once, and in place
abbrev pub OnceInPlace : Shape → List Entry → Type 0
OnceInPlace d h = (id : ℕ) → 0 < lasts_of d id h → FinalisedOnce d id h

-- If a task set other than the first of its query is installed, the one before it was finalised
-- once, in the slot of this install, and no call gave this slot away since.
abbrev pub StagesInOrder : Type 0
StagesInOrder = (d : Shape) (w id : ℕ) (h : List Entry) → IsLegal d (entry w (Install (id + 1)) ∷ h)
    → (id + 1) % STAGES ≢ 0 → let s = slot_of (place_of d h w) in
    (lasts_of d id h ≡ 1) × (slot_with d id h ≡ Some s) × (task_in d s h ≡ Some id)

-- A slot that serves a task set served one of the same query at each moment since a task set of
-- this query was installed.
abbrev pub QueryKeepsSlot : Shape → List Entry → Type 0
QueryKeepsSlot d h = (s id jd : ℕ) (early : List Entry) → task_in d s h ≡ Some id → Begins h early
    → jd / STAGES ≡ id / STAGES → 0 < installs_of jd early
    → (kd : ℕ) × (task_in d s early ≡ Some kd) × (kd / STAGES ≡ id / STAGES)
