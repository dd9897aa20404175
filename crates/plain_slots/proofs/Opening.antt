-- An object begins as a table makes it.
use Rattle.std.proofs.Common.{◌≡◌, ℕ, ◌+◌, ◌*◌, Bool, false, List, [], Some, replicate, refl, sym, ap, ◌∙◌, arith}
use Rattle.std.proofs.lemmas.Nat.Bits.{bit_at-zero}
use Rattle.std.proofs.lemmas.List.{get_or-replicate, length-replicate}
use Rattle.slot_history.specs.declared.shape.Shape.{Shape}
use Rattle.slot_history.specs.declared.shape.TheConstants.{PARTS}
use Rattle.slot_history.specs.declared.place.Place.{Place}
use Rattle.slot_history.specs.declared.place.Place.TheVariants.{Free}
use Rattle.slot_history.proofs.Sets.{count-none}
use Rattle.slot_station.specs.declared.log.Logged.{Logged}
use Rattle.plain_slots.specs.declared.slot.Slot.{Slot}
use Rattle.plain_slots.specs.declared.slot.Slot.TheVariants.{Empty}
use Rattle.slot_station.specs.Shapes.{IsShape}
use Rattle.plain_slots.specs.Objects.{HasMasks, IsObject}
use Rattle.slot_station.proofs.Lists.{get-replicate, pair-within}
use Rattle.plain_slots.proofs.Objects.{contents_of}
use Rattle.plain_slots.proofs.Masks.{word-within}

no-masks : (d : Shape) → HasMasks d (λ w s. false) (replicate {A = ℕ} (d.workers * PARTS) 0)
no-masks d = record {
  count = length-replicate {A = ℕ} (d.workers * PARTS) 0;
  masks = λ w part in_w in_p. rw (get_or-replicate {A = ℕ} (d.workers * PARTS) (w * PARTS + part) 0 0 (word-within d.workers w part in_w in_p))
      (record { small = omega arith; each = λ k low. bit_at-zero k });
}

opened : (d : Shape) → IsShape d → IsObject (contents_of d (replicate d.slots Empty) (replicate (d.slots * d.workers) false)
    (replicate {A = ℕ} d.slots 0) (replicate d.workers Free) (replicate {A = ℕ} (d.workers * PARTS) 0) (replicate {A = ℕ} (d.workers * PARTS) 0) 0 0 [])
opened d shape = record {
  shape = shape;
  legal = tt;
  slots_are = record { count = length-replicate d.slots Empty; are = λ s h. get-replicate d.slots s Empty h };
  debts_are = record {
    count = length-replicate (d.slots * d.workers) false;
    are = λ s v in_s in_v. get-replicate (d.slots * d.workers)
        (s * d.workers + v) false (pair-within d.slots d.workers s v in_s in_v);
    counts_are = length-replicate {A = ℕ} d.slots 0;
    counted = λ s h. get-replicate {A = ℕ} d.slots s 0 h ∙ ap Some (sym (count-none d.workers (λ v. false) (λ v low. refl)));
  };
  places_are = record { count = length-replicate d.workers Free; are = λ w h. get-replicate d.workers w Free h };
  returns_are = no-masks d;
  changes_are = no-masks d;
  admitted_is = refl;
  finished_is = refl;
}

pub opens : (d : Shape) (slots : List Slot) (owing : List Bool) (counts : List ℕ) (places : List Place) (returns changes : List ℕ)
    → (log : List Logged) → IsShape d → slots ≡ replicate d.slots Empty → owing ≡ replicate (d.slots * d.workers) false → counts ≡ replicate {A = ℕ} d.slots 0
    → places ≡ replicate d.workers Free
    → returns ≡ replicate {A = ℕ} (d.workers * PARTS) 0 → changes ≡ replicate {A = ℕ} (d.workers * PARTS) 0 → log ≡ []
    → IsObject (contents_of d slots owing counts places returns changes 0 0 log)
opens d slots owing counts places returns changes log shape a b c e f g h = rw (a, b, c, e, f, g, h) (opened d shape)
