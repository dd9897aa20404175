-- The slot of a coordinator that asks, and who owes nothing at any slot.
use Rattle.std.proofs.Common.{◌≡◌, ℕ, ◌<◌, true, false, sym, ap, ◌∙◌, subst}
use mathlib.Core.Bool.{true≢false}
use Rattle.std.proofs.lemmas.Bool.{false_from_ne_true}
use Rattle.slot_history.specs.declared.shape.Shape.{Shape}
use Rattle.slot_history.specs.declared.place.Place.{Place}
use Rattle.slot_history.specs.States.{ObjectState, slot_of, id_of, owes}
use Rattle.slot_history.specs.Table.{Owes, duty_of, stays, Meets, nth_other, AreLed, IsTable}
use Rattle.slot_history.proofs.Duties.{asking-leads, owes-duty, leads-slot}
use Rattle.slot_history.proofs.Others.{next-is}

pub led : (d : Shape) (S : ObjectState) → IsTable d S → AreLed d S
led d S tab w s id n m low at =
    let k = asking-leads d s id n m (duty_of (S.slots s) w) (subst (Meets d s (duty_of (S.slots s) w)) at (tab.duty s w low)) in
    let r = leads-slot (S.slots s) w id k.0 k.1 in record {
      task = r.0;
      ending = k.0;
      slot = r.1;
      named = r.2;
      mine = r.3;
      unswept = r.4;
      asked = k.2;
      next = λ more. next-is d k.0 n m k.2 (subst (λ v. v < d.workers) r.3 low) more ∙ ap (λ c. nth_other c n) (sym r.3);
    }

-- whoever owes at a slot is at a place where it may stay until it has paid
pub owes-stays : (d : Shape) (S : ObjectState) → IsTable d S → (s v : ℕ) → v < d.workers → owes (S.slots s) v ≡ true
    → (slot_of (S.places v) ≡ s) × (stays (S.places v) ≡ true)
owes-stays d S tab s v low h =
    let m : Meets d s (Owes (id_of (S.slots s))) (S.places v) =
    subst (λ D. Meets d s D (S.places v)) (owes-duty d (S.slots s) v (tab.chain s) h) (tab.duty s v low) in (m.0, m.1)

-- and whoever is at another place owes nothing at any slot
pub owes-nothing : (d : Shape) (S : ObjectState) → IsTable d S → (s v : ℕ) → v < d.workers → (p : Place) → S.places v ≡ p → stays p ≡ false
    → owes (S.slots s) v ≡ false
owes-nothing d S tab s v low p at away =
    false_from_ne_true (owes (S.slots s) v) (λ h. true≢false (sym (owes-stays d S tab s v low h).1 ∙ ap stays at ∙ away))
