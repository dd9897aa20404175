-- The slot of a task set and of a query: what a history, a look and an answer Last say of it.
use Rattle.std.specs.Prelude.{◌≡◌, ◌≢◌, ℕ, ◌+◌, ◌/◌, ◌%◌, ◌<◌, true, List, ◌∷◌, Some}
use Rattle.slot_history.specs.declared.shape.Shape.{Shape}
use Rattle.slot_history.specs.declared.shape.TheConstants.{STAGES}
use Rattle.slot_history.specs.declared.act.Act.{Act}
use Rattle.slot_history.specs.declared.act.Act.TheVariants.{LookOpen}
use Rattle.slot_history.specs.declared.act.Entry.{Entry}
use Rattle.slot_history.specs.declared.place.Held.{Held}
use Rattle.slot_history.specs.declared.place.Place.TheVariants.{Entered, Holding}
use Rattle.slot_history.specs.States.{Finishing, slot_of, id_at, finalised_id, task_at}
use Rattle.slot_history.specs.Steps.{state_after}
use Rattle.slot_history.specs.Histories.{IsLegal, Begins, Tiles, entry, place_of, claims_of}
use Rattle.slot_history.specs.Histories.{is_last, installs_of, lasts_of, finisher_of, total_of}
use Rattle.slot_history.specs.Histories.{slot_with, task_in}
use Rattle.slot_history.specs.Beginnings.{IsTiled}

-- ---- the laws, as the functions of module `laws::slots` state them

-- the task set that a slot serves, by the history, is the one that its state has
abbrev pub TaskInSlot : Shape → List Entry → Type 0
TaskInSlot d h = (s : ℕ) → task_in d s h ≡ task_at ((state_after d h).slots s)

-- and a task set that a slot serves was installed in this slot
abbrev pub ServingSlot : Shape → List Entry → Type 0
ServingSlot d h = (s id : ℕ) → task_in d s h ≡ Some id → slot_with d id h ≡ Some s

-- a slot that serves a task set has served it at each moment since its install
abbrev pub TaskKeepsSlot : Type 0
TaskKeepsSlot = (d : Shape) (h mid : List Entry) (s id : ℕ) → IsLegal d h
    → task_in d s h ≡ Some id → Begins h mid → 0 < installs_of id mid → task_in d s mid ≡ Some id

-- A call that is answered Last is about the slot of the task set's install. By then the claims of
-- the task set tile the total of this install.
abbrev pub LastInSlot : Type 0
LastInSlot = (d : Shape) (w : ℕ) (a : Act) (h : List Entry) → IsLegal d (entry w a ∷ h)
    → is_last a ≡ true → let id = id_at (place_of d h w) in
    (slot_with d id h ≡ Some (slot_of (place_of d h w)))
    × ((total : ℕ) × (total_of d id h ≡ Some total) × Tiles (claims_of d id h) total)

-- a slot that is finishing is the slot of its task set's install, whose claims tile its total
abbrev pub FinishingInSlot : Shape → List Entry → Type 0
FinishingInSlot d h = (s id w : ℕ) (held : Held) → (state_after d h).slots s ≡ Finishing id w held
    → (slot_with d id h ≡ Some s) × IsTiled d h id

-- a query is seen open in one slot only: looks that answer task sets of one query are at one slot
abbrev pub OneSlotSeen : Type 0
OneSlotSeen = (d : Shape) (w v s other id jd : ℕ) (h early : List Entry)
    → IsLegal d (entry w (LookOpen id) ∷ h) → Begins h (entry v (LookOpen jd) ∷ early)
    → place_of d h w ≡ Entered s → place_of d early v ≡ Entered other
    → jd / STAGES ≡ id / STAGES → s ≡ other

-- Once a task set of a query was installed, and until a look sees this query open, each look that
-- sees that slot open sees this query.
abbrev pub SameQuerySeen : Type 0
SameQuerySeen = (d : Shape) (w u s id jd kd : ℕ) (h mid : List Entry)
    → IsLegal d (entry w (LookOpen id) ∷ h) → Begins h (entry u (LookOpen kd) ∷ mid)
    → place_of d h w ≡ Entered s → place_of d mid u ≡ Entered s
    → jd / STAGES ≡ id / STAGES → 0 < installs_of jd mid → kd / STAGES ≡ id / STAGES

-- if a task set other than the first of its query was installed, the one before it was finalised,
-- in the same slot
abbrev pub StageBefore : Shape → List Entry → Type 0
StageBefore d h = (id s : ℕ) → slot_with d (id + 1) h ≡ Some s → (id + 1) % STAGES ≢ 0
    → (lasts_of d id h ≡ 1) × (slot_with d id h ≡ Some s)

-- a finalised task set has a finisher, a worker of the shape
abbrev pub HasFinisher : Shape → List Entry → Type 0
HasFinisher d h = (id : ℕ) → 0 < lasts_of d id h
    → (w : ℕ) × (w < d.workers) × (finisher_of d id h ≡ Some w)

-- and whoever holds a slot after a finalisation is the finisher of its task set
abbrev pub HolderIsFinisher : Shape → List Entry → Type 0
HolderIsFinisher d h = (w s : ℕ) (held : Held) → w < d.workers
    → place_of d h w ≡ Holding s held → held.again ≡ true
    → finisher_of d (finalised_id held) h ≡ Some w

-- the finisher of a task set stays
abbrev pub FinisherStays : Type 0
FinisherStays = (d : Shape) (h early : List Entry) (id w : ℕ) → IsLegal d h → Begins h early
    → finisher_of d id early ≡ Some w → finisher_of d id h ≡ Some w
