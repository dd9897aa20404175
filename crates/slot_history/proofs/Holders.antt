-- The task set that a holder finalises: its claims tile its total, and the holder's own trail has them all.
use Rattle.std.proofs.Common.{◌≡◌, ℕ, ◌+◌, ◌*◌, ◌/◌, ◌%◌, ◌<◌, true, List, Option, inl, inr, sym}
use Rattle.std.proofs.Common.{ap, ap₂, ◌∙◌, subst, arith}
use Rattle.std.specs.Prelude.{unwrap_or}
use mathlib.Core.Bool.{true≢false}
use Rattle.slot_history.specs.declared.shape.Shape.{Shape}
use Rattle.slot_history.specs.declared.shape.TheConstants.{STAGES}
use Rattle.slot_history.specs.declared.act.Entry.{Entry}
use Rattle.slot_history.specs.declared.place.Held.{Held}
use Rattle.slot_history.specs.declared.place.Place.TheVariants.{Holding}
use Rattle.slot_history.specs.States.{SlotState, Finishing, ObjectState, finalised_id}
use Rattle.slot_history.specs.Steps.{state_after}
use Rattle.slot_history.specs.Histories.{IsLegal, place_of, lasts_of}
use Rattle.slot_history.specs.Bounds.{IsReservation, IsFinalisation, IsSlotSound}
use Rattle.slot_history.specs.Beginnings.{KeepsTaskSets, IsTiled, HolderTiles, HolderHasClaims}
use Rattle.slot_history.proofs.Duties.{IsHeldBy}
use Rattle.slot_history.proofs.Table.{table}
use Rattle.slot_history.proofs.Holdings.{holder-slot, slots-sound}
use Rattle.slot_history.proofs.Own.{found-place}
use Rattle.slot_history.proofs.Beginnings.{begins-legal}
use Rattle.slot_history.proofs.Claims.{tiles-total, finishing-last}
use Rattle.slot_history.proofs.TaskSetsKept.{task-sets-stay}

-- the slot of a holder after a finalisation is finishing, for the id that the holder finalises
pub finalises-slot : (w : ℕ) (k : Held) (x : SlotState) → IsHeldBy w k x → IsSlotSound x → k.again ≡ true → x ≡ Finishing (finalised_id k) w k
finalises-slot w k x (inl is) sound again = absurd (let r : IsReservation k = subst IsSlotSound is sound in true≢false (sym again ∙ r.again))
finalises-slot w k x (inr (id, is)) sound again =
    let f : IsFinalisation id k = subst IsSlotSound is sound in
    let whole : STAGES * (id / STAGES) + id % STAGES ≡ id = omega arith in
    let same : finalised_id k ≡ id = ap₂ (λ (o : Option ℕ) (n : ℕ). STAGES * unwrap_or o 0 + n) f.query f.stage ∙ whole in
    is ∙ ap (λ i. Finishing i w k) (sym same)

pub holder-finishes : (d : Shape) (w s : ℕ) (k : Held) (h : List Entry) → IsLegal d h → w < d.workers → place_of d h w ≡ Holding s k → k.again ≡ true
    → (state_after d h).slots s ≡ Finishing (finalised_id k) w k
holder-finishes d w s k h legal low at again = let S : ObjectState = state_after d h in
    finalises-slot w k (S.slots s) (holder-slot d S (table d h legal) w s k low at) (slots-sound d h legal s) again

pub holder-tiles : HolderTiles
holder-tiles d w s k h legal low at again =
    let last : 0 < lasts_of d (finalised_id k) h = finishing-last d h legal s (finalised_id k) w k (holder-finishes d w s k h legal low at again) in
    (last, (tiles-total d h legal).1 (finalised_id k) last)

pub holder-has-claims : HolderHasClaims
holder-has-claims d w s k h early legal begins low at again same =
    let then : IsTiled d early (finalised_id k) = holder-tiles d w s k early (begins-legal d h early legal begins) low (sym (found-place d w early h same)
    ∙ at) again in
    let stays : KeepsTaskSets d h early = task-sets-stay d h early legal begins in
    (sym (stays.claims (finalised_id k) then.0), λ v. sym (stays.ranges v (finalised_id k) then.0))
