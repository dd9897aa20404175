-- What the tests know of a worker before a call.
use Rattle.std.specs.Prelude.{◌≡◌, ℕ}
use Rattle.slot_history.specs.declared.shape.Shape.{Shape}
use Rattle.slot_history.specs.declared.place.Place.{Place}
use Rattle.slot_history.specs.declared.place.Place.TheVariants.{Asking}
use Rattle.slot_station.specs.Desks.{Seen, Owns, own_place}
use Rattle.slot_station.specs.Tokens.{IsSpent, IsDebt, IsCoordinator, IsHolder, IsAnnouncer}
use Rattle.station_rows.specs.declared.hand.Hand.{Hand}
use Rattle.station_rows.specs.declared.hand.Hand.TheVariants as hand
use Rattle.station_rows.specs.declared.subject.Sets.{Sets}
use Rattle.station_rows.specs.declared.worker.Worker.{Worker}

module _ (d : Shape) (w : ℕ) (p : Place) where
  -- what the worker w has in hand is the token of its place p
  abbrev pub IsHandAt : Hand → Type 0
  IsHandAt hand.Nothing = Unit {0}
  IsHandAt (hand.Spent token) = IsSpent d w p token
  IsHandAt (hand.Debt token) = IsDebt d w p token
  IsHandAt (hand.Coordinator token) = (s id asked marked : ℕ) → p ≡ Asking s id asked marked
      → IsCoordinator d w p token
  IsHandAt (hand.Holder token) = IsHolder d w p token
  IsHandAt (hand.Announcer token) = IsAnnouncer d w p token

module _ {O S : Type 0} (seen : S → Seen O Sets) where
  -- the worker is at its place, and its station serves its sets
  abbrev pub IsAt : Worker S → Type 0
  IsAt worker = let x = seen worker.station.now in
      (worker.place ≡ own_place x) × (worker.sets.now ≡ x.desk.subject)

  -- and it has in hand the token of its place
  abbrev pub HasToken : Worker S → Type 0
  HasToken worker = IsAt worker × Owns IsHandAt (seen worker.station.now) worker.hand

  -- it borrows the same station, which is at the same table
  abbrev pub KeepsOrigin : Worker S → Worker S → Type 0
  KeepsOrigin old new = (new.station.ghost_name ≡ old.station.ghost_name)
      × ((seen new.station.now).origin ≡ (seen old.station.now).origin)
