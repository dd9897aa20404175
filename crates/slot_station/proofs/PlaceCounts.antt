-- An asking and an announcing have come no further than there are workers.
use Rattle.std.proofs.Common.{ℕ, ◌<◌, ◌≤◌, List, arith}
use Rattle.slot_history.specs.declared.shape.Shape.{Shape}
use Rattle.slot_history.specs.declared.shape.TheConstants.{MOST_WORKERS}
use Rattle.slot_history.specs.declared.act.Entry.{Entry}
use Rattle.slot_history.specs.declared.place.Place.{Place}
use Rattle.slot_history.specs.declared.place.Place.TheVariants.{Asking, Announcing}
use Rattle.slot_history.specs.States.{slot_of}
use Rattle.slot_history.specs.Table.{Duty, Meets}
use Rattle.slot_history.specs.Bounds.{IsShape, IsPlaceWithin}
use Rattle.slot_history.specs.Histories.{IsLegal, place_of}
use Rattle.slot_history.proofs.Duties.{asking-leads}
use Rattle.slot_history.proofs.Sets.{count-most}
use Rattle.slot_history.proofs.Table.{table}
use Rattle.slot_history.proofs.Within.{within}
use Rattle.slot_station.specs.Places.{IsCounted}

counted : (d : Shape) (p : Place) (D : Duty) → d.workers ≤ MOST_WORKERS → Meets d (slot_of p) D p → IsPlaceWithin d p → IsCounted p
counted d (Asking s id n m) D most meets low =
    let (e, is, asked) = asking-leads d s id n m D meets in
    let less = asked.within in
    let marks = asked.marks in
    let some = count-most d.workers e.marked in (omega arith, omega arith)
counted d (Announcing s again told) D most meets low = let less = low.1 in omega arith
counted d p D most meets low = tt

-- after a legal history
pub place-counted : (d : Shape) (h : List Entry) (w : ℕ) → IsShape d → IsLegal d h → w < d.workers → IsCounted (place_of d h w)
place-counted d h w shape legal low =
    let p : Place = place_of d h w in
    counted d p _ shape.workers.1 ((table d h legal).duty (slot_of p) w low) ((within d h legal).places w)
