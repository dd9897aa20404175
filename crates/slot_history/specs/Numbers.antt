-- The numbers that a history names lie within its shape: ids, slots of installs, workers of claims.
use Rattle.std.specs.Prelude.{◌≡◌, ℕ, ◌*◌, ◌<◌, Bool, true, false, List, ◌∷◌, Option, Some, None}
use Rattle.std.specs.Prelude.{All}
use Rattle.slot_history.specs.declared.shape.Shape.{Shape}
use Rattle.slot_history.specs.declared.shape.TheConstants.{STAGES}
use Rattle.slot_history.specs.declared.act.Act.{Act}
use Rattle.slot_history.specs.declared.act.Act.TheVariants.{LookOpen, LeaveOwe, Install}
use Rattle.slot_history.specs.declared.act.Entry.{Entry}
use Rattle.slot_history.specs.declared.place.Place.{Place}
use Rattle.slot_history.specs.declared.place.Place.TheVariants.{Holding}
use Rattle.slot_history.specs.States.{ObjectState, slot_of, id_at, id_of, has_id}
use Rattle.slot_history.specs.Steps.{state_after}
use Rattle.slot_history.specs.Table.{binds}
use Rattle.slot_history.specs.Bounds.{IsShape}
use Rattle.slot_history.specs.Histories.{Begins, Morsel, claims_of, installs_of, slot_with}

-- the place names an id
abbrev pub names_id : Place → Bool
names_id (Holding s held) = false
names_id p = binds p

-- the id that a call or its answer names, if it names one
abbrev pub named_id : Act → Option ℕ
named_id (LookOpen id) = Some id
named_id (LeaveOwe id) = Some id
named_id (Install id) = Some id
named_id _ = None

-- an id that a worker's place names is that of the slot at this place
abbrev pub PlacesNameIds : Shape → ObjectState → Type 0
PlacesNameIds d S = (w : ℕ) → w < d.workers → names_id (S.places w) ≡ true
    → let x = S.slots (slot_of (S.places w)) in (has_id x ≡ true) × (id_of x ≡ id_at (S.places w))

-- each id is one of the shape's queries: in slots, at places, of installs, and in calls and their
-- answers
pub record AreIdsWithin (d : Shape) (h : List Entry) : Type 0 where
  pub slots : (s : ℕ) → has_id ((state_after d h).slots s) ≡ true
      → id_of ((state_after d h).slots s) < STAGES * d.queries
  pub places : (w : ℕ) → w < d.workers → names_id ((state_after d h).places w) ≡ true
      → id_at ((state_after d h).places w) < STAGES * d.queries
  pub installed : (id : ℕ) → 0 < installs_of id h → id < STAGES * d.queries
  pub named : (e : Entry) (early : List Entry) (id : ℕ) → Begins h (e ∷ early)
      → named_id e.act ≡ Some id → id < STAGES * d.queries

-- within the limits an id has at most 15 bits
abbrev pub IdsAreSmall : Type 0
IdsAreSmall = (d : Shape) (id : ℕ) → IsShape d → id < STAGES * d.queries → id < 32768

-- task sets are installed in slots of the shape
abbrev pub AreInstallsWithin : Shape → List Entry → Type 0
AreInstallsWithin d h = (id s : ℕ) → slot_with d id h ≡ Some s → s < d.slots

-- claims are by workers of the shape
abbrev pub AreClaimsWithin : Shape → List Entry → Type 0
AreClaimsWithin d h = (id : ℕ) → All (λ (m : Morsel). m.worker < d.workers) (claims_of d id h)
