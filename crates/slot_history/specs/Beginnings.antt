-- Beginnings of a history: what they say of the whole.
use Rattle.std.specs.Prelude.{◌≡◌, ℕ, ◌<◌, ◌⊎◌, true, List, [], ◌++◌, Some}
use Rattle.slot_history.specs.declared.shape.Shape.{Shape}
use Rattle.slot_history.specs.declared.act.Entry.{Entry}
use Rattle.slot_history.specs.declared.place.Held.{Held}
use Rattle.slot_history.specs.declared.place.Place.TheVariants.{Holding}
use Rattle.slot_history.specs.States.{finalised_id}
use Rattle.slot_history.specs.Histories.{IsLegal, Begins, own_calls, place_of, ranges_of}
use Rattle.slot_history.specs.Histories.{own_record, claims_of, lasts_of, total_of, slot_with}
use Rattle.slot_history.specs.Histories.{Tiles}

-- the calls that were added leave the place, the ranges and the notice records of w
pub record StaysWithoutCalls (d : Shape) (w : ℕ) (more early : List Entry) : Type 0 where
  pub place : place_of d (more ++ early) w ≡ place_of d early w
  pub ranges : (id : ℕ) → ranges_of d w id (more ++ early) ≡ ranges_of d w id early
  pub records : (s : ℕ) → own_record d w s (more ++ early) ≡ own_record d w s early

-- What a beginning says of a task set stays: its total and its slot from its install on, and from
-- its last call on also its claims, and so the ranges of each worker.
pub record KeepsTaskSets (d : Shape) (h early : List Entry) : Type 0 where
  pub total : (id total : ℕ) → total_of d id early ≡ Some total → total_of d id h ≡ Some total
  pub slot : (id s : ℕ) → slot_with d id early ≡ Some s → slot_with d id h ≡ Some s
  pub last : (id : ℕ) → 0 < lasts_of d id early → lasts_of d id h ≡ 1
  pub claims : (id : ℕ) → 0 < lasts_of d id early → claims_of d id h ≡ claims_of d id early
  pub ranges : (w id : ℕ) → 0 < lasts_of d id early → ranges_of d w id h ≡ ranges_of d w id early

-- a task set was finalised, with a total that its claims tile
abbrev pub IsTiled : Shape → List Entry → ℕ → Type 0
IsTiled d h id = (0 < lasts_of d id h)
    × ((total : ℕ) × (total_of d id h ≡ Some total) × Tiles (claims_of d id h) total)

-- ---- the laws, as the functions of module `laws::beginnings` state them

-- a beginning of a legal history is legal
abbrev pub BeginningsAreLegal : Type 0
BeginningsAreLegal = (d : Shape) (h early : List Entry) → IsLegal d h → Begins h early
    → IsLegal d early

-- of two beginnings of one history, one begins the other
abbrev pub BeginningsNest : Type 0
BeginningsNest = (h one other : List Entry) → Begins h one → Begins h other
    → Begins one other ⊎ Begins other one

-- a beginning that has all own calls of every worker is the whole
abbrev pub WholeByOwnCalls : Type 0
WholeByOwnCalls = (d : Shape) (h early : List Entry) → IsLegal d h → Begins h early
    → ((w : ℕ) → w < d.workers → own_calls w h ≡ own_calls w early) → h ≡ early

-- what lies between a beginning that has all own calls of a worker and the whole has them too
abbrev pub OwnCallsBetween : Type 0
OwnCallsBetween = (w : ℕ) (h mid early : List Entry) → Begins h mid → Begins mid early
    → own_calls w h ≡ own_calls w early → own_calls w h ≡ own_calls w mid

-- calls by others leave the place, the ranges and the notice records of a worker
abbrev pub OthersLeaveIt : Type 0
OthersLeaveIt = (d : Shape) (w : ℕ) (more early : List Entry) → own_calls w more ≡ []
    → StaysWithoutCalls d w more early

-- what a beginning of a legal history says of a task set stays
abbrev pub TaskSetsStay : Type 0
TaskSetsStay = (d : Shape) (h early : List Entry) → IsLegal d h → Begins h early
    → KeepsTaskSets d h early

-- the task set that a worker finalises was finalised, and its claims tile its total, by any history
-- in which the worker is the holder
abbrev pub HolderTiles : Type 0
HolderTiles = (d : Shape) (w s : ℕ) (held : Held) (h : List Entry) → IsLegal d h → w < d.workers
    → place_of d h w ≡ Holding s held → held.again ≡ true → IsTiled d h (finalised_id held)

-- and a beginning that has all own calls of the holder has all claims of this task set
abbrev pub HolderHasClaims : Type 0
HolderHasClaims = (d : Shape) (w s : ℕ) (held : Held) (h early : List Entry) → IsLegal d h
    → Begins h early → w < d.workers → place_of d h w ≡ Holding s held → held.again ≡ true
    → own_calls w h ≡ own_calls w early → let id = finalised_id held in
    (claims_of d id early ≡ claims_of d id h)
    × ((v : ℕ) → ranges_of d v id early ≡ ranges_of d v id h)
