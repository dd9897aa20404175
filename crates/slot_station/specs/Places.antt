-- The counts of a place.
use Rattle.std.specs.Prelude.{◌<◌, ◌≤◌}
use Rattle.slot_history.specs.declared.shape.TheConstants.{MOST_WORKERS}
use Rattle.slot_history.specs.declared.place.Place.{Place}
use Rattle.slot_history.specs.declared.place.Place.TheVariants.{Asking, Announcing}

-- an asking and an announcing have come no further than there are workers
abbrev pub IsCounted : Place → Type 0
IsCounted (Asking s id asked marked) = (asked < MOST_WORKERS) × (marked ≤ MOST_WORKERS)
IsCounted (Announcing s again told) = told < MOST_WORKERS
IsCounted p = Unit {0}
