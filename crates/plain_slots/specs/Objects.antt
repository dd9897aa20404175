-- What is kept at run time of the object on one thread, as the states of slots and workers.
use Rattle.std.specs.Prelude.{◌≡◌, ℕ, ◌+◌, ◌*◌, ◌<◌, Bool, List, Some, length, get_or, slice_get}
use Rattle.slot_history.specs.declared.shape.Shape.{Shape}
use Rattle.slot_history.specs.declared.shape.TheConstants.{PARTS}
use Rattle.slot_history.specs.declared.act.Act.{Act}
use Rattle.slot_history.specs.declared.place.Place.{Place}
use Rattle.slot_history.specs.States.{SlotState, owes}
use Rattle.slot_history.specs.Steps.{slot_after, changes_after, returns_after}
use Rattle.slot_history.specs.Steps.{admitted_after, finished_after}
use Rattle.slot_history.specs.Allowed as allowed
use Rattle.slot_history.specs.Allowed.{IsMask, IsAllowed}
use Rattle.slot_history.specs.Histories.{IsLegal}
use Rattle.slot_station.specs.declared.log.Logged.{Logged}
use Rattle.slot_station.specs.Log.{calls_of}
use Rattle.slot_station.specs.Shapes.{IsShape}
use Rattle.one_thread.specs.Stories.{Story, HasPlaces, state_in}
use Rattle.plain_slots.specs.declared.slot.Slot.{Slot}
use Rattle.plain_slots.specs.Slots.{shown}

-- the mask words of the workers have the notices that are pending
pub record HasMasks (d : Shape) (pending : ℕ → ℕ → Bool) (words : List ℕ) : Type 0 where
  pub count : length words ≡ d.workers * PARTS
  pub masks : (w part : ℕ) → w < d.workers → part < PARTS
      → IsMask part (pending w) (get_or words (w * PARTS + part) 0)

-- a list of slots shows the states of the slots
pub record HasSlots (d : Shape) (slots : List Slot) (states : ℕ → SlotState) : Type 0 where
  pub count : length slots ≡ d.slots
  pub are : (s : ℕ) → s < d.slots → slice_get slots s ≡ Some (shown (states s))

-- a list says of each slot and worker whether the worker was marked there and has not paid, and
-- another one how many such workers each slot has
pub record HasDebts (d : Shape) (owing : List Bool) (counts : List ℕ) (states : ℕ → SlotState)
    : Type 0 where
  pub count : length owing ≡ d.slots * d.workers
  pub are : (s v : ℕ) → s < d.slots → v < d.workers
      → slice_get owing (s * d.workers + v) ≡ Some (owes (states s) v)
  pub counts_are : length counts ≡ d.slots
  pub counted : (s : ℕ) → s < d.slots → slice_get counts s ≡ Some (allowed.debts d (states s))

-- what an object keeps
pub record Contents : Type 0 where
  pub shape : Shape
  pub slots : List Slot
  pub owing : List Bool
  pub debts : List ℕ
  pub places : List Place
  pub returns : List ℕ
  pub changes : List ℕ
  pub admitted : ℕ
  pub finished : ℕ
  pub log : List Logged

-- what is kept is what the legal history of the log leaves
pub record IsObject (kept : Contents) : Type 0 where
  pub shape : IsShape kept.shape
  pub legal : IsLegal kept.shape (calls_of kept.log)
  pub slots_are : HasSlots kept.shape kept.slots (state_in kept.shape kept.log).slots
  pub debts_are : HasDebts kept.shape kept.owing kept.debts (state_in kept.shape kept.log).slots
  pub places_are : HasPlaces kept.shape kept.places (state_in kept.shape kept.log).places
  pub returns_are : HasMasks kept.shape (state_in kept.shape kept.log).returns kept.returns
  pub changes_are : HasMasks kept.shape (state_in kept.shape kept.log).changes kept.changes
  pub admitted_is : kept.admitted ≡ (state_in kept.shape kept.log).admitted
  pub finished_is : kept.finished ≡ (state_in kept.shape kept.log).finished

-- a call that changes no notices and no numbers
abbrev pub Calm : Act → Type 0
Calm a = ((w : ℕ) (p : Place) (f : ℕ → ℕ → Bool) → changes_after w a p f ≡ f)
    × ((w : ℕ) (p : Place) (f : ℕ → ℕ → Bool) → returns_after w a p f ≡ f)
    × ((n : ℕ) → admitted_after a n ≡ n) × ((n : ℕ) → finished_after a n ≡ n)

-- a call that changes no slot
abbrev pub Still : Act → Type 0
Still a = (d : Shape) (w : ℕ) (x : SlotState) → slot_after d w a x ≡ x

-- the worker may make this call, which changes its place alone
pub record MayMove (object : Story) (w : ℕ) (a : Act) : Type 0 where
  pub below : w < object.shape.workers
  pub allowed : IsAllowed object.shape (state_in object.shape object.log) w a
  pub still : Still a
  pub calm : Calm a
