-- The places of the workers, in a list.
use Rattle.std.proofs.Common.{ℕ, ◌<◌, List, set, ◌∙◌, length-set}
use Rattle.slot_history.specs.declared.shape.Shape.{Shape}
use Rattle.slot_history.specs.declared.place.Place.{Place}
use Rattle.slot_history.specs.Sets.{upd}
use Rattle.slot_station.proofs.Lists.{lists-set}
use Rattle.one_thread.specs.Stories.{HasPlaces}

-- one worker goes to another place
pub places-set : (d : Shape) (places : List Place) (f : ℕ → Place) (w : ℕ) (p : Place) → HasPlaces d places f → w < d.workers
    → HasPlaces d (set places w p) (upd f w p)
places-set d places f w p has low = record {
  count = length-set places w p ∙ has.count;
  are = lists-set (λ q. q) d.workers places f w p has.count low has.are;
}
