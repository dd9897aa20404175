-- The object on one thread without its cells, as contracts see it.
use Rattle.std.specs.Prelude.{◌≡◌, ℕ, ◌<◌, List, ◌∷◌, Some, length, slice_get}
use Rattle.slot_history.specs.declared.shape.Shape.{Shape}
use Rattle.slot_history.specs.declared.act.Act.{Act}
use Rattle.slot_history.specs.declared.place.Place.{Place}
use Rattle.slot_history.specs.States.{ObjectState}
use Rattle.slot_history.specs.Steps.{state_after}
use Rattle.slot_history.specs.Calls.{Call, MayAt}
use Rattle.slot_history.specs.Histories.{IsLegal}
use Rattle.slot_station.specs.declared.log.Logged.{Logged}
use Rattle.slot_station.specs.Log.{calls_of, call}

-- how large the object is, and its log
pub record Story : Type 0 where
  pub shape : Shape
  pub log : List Logged

-- the state that this log leaves, of an object of this shape
abbrev pub state_in : Shape → List Logged → ObjectState
state_in shape log = state_after shape (calls_of log)

-- where a worker is
abbrev pub place_in : Story → ℕ → Place
place_in object worker = (state_in object.shape object.log).places worker

-- a list has the places of the workers
pub record HasPlaces (d : Shape) (places : List Place) (at : ℕ → Place) : Type 0 where
  pub count : length places ≡ d.workers
  pub are : (w : ℕ) → w < d.workers → slice_get places w ≡ Some (at w)

-- the worker may make the call: it is one of the object's, and its place allows the call
pub record MayMake (object : Story) (worker : ℕ) (c : Call) : Type 0 where
  pub below : worker < object.shape.workers
  pub may : MayAt object.shape (place_in object worker) c

-- the worker made the call: the history is longer by it, and still legal
pub record MakesCall (old : Story) (worker : ℕ) (act : Act) (new : Story) : Type 0 where
  pub story : new ≡ record old { log = call worker act ∷ old.log }
  pub legal : IsLegal new.shape (calls_of new.log)

-- what a reply brings is the worker's, at the place to which its call brought it: `Is` says so by a
-- shape, a worker and its place
abbrev pub Brings : {R : Type 0} → (Shape → ℕ → Place → R → Type 0) → Story → ℕ → R → Type 0
Brings Is object worker reply = Is object.shape worker (place_in object worker) reply
