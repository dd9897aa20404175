-- What is kept of the object at run time follows the history.
use Rattle.std.proofs.Common.{◌≡◌, ◌≢◌, ℕ, ◌+◌, ◌*◌, ◌<◌, Bool, List, ◌∷◌, length, set, slice_get, Some, sym, ap, ◌∙◌, length-set, arith}
use Rattle.std.proofs.lemmas.Nat.{same_from_place}
use native.Mathlib.Decide.{ℕ_discrete}
use Rattle.slot_history.specs.declared.shape.Shape.{Shape}
use Rattle.slot_history.specs.declared.act.Act.{Act}
use Rattle.slot_history.specs.declared.place.Place.{Place}
use Rattle.slot_history.specs.Sets.{upd}
use Rattle.slot_history.specs.States.{SlotState, owes}
use Rattle.slot_history.specs.Steps.{moved, next}
use Rattle.slot_history.specs.Allowed.{IsAllowed, debts}
use Rattle.slot_history.proofs.Sets.{upd-same, upd-else, count-same}
use Rattle.slot_station.specs.declared.log.Logged.{Logged}
use Rattle.plain_slots.specs.declared.slot.Slot.{Slot}
use Rattle.slot_station.specs.Log.{call}
use Rattle.plain_slots.specs.Slots.{shown}
use Rattle.one_thread.specs.Stories.{state_in}
use Rattle.one_thread.proofs.Places.{places-set}
use Rattle.plain_slots.specs.Objects.{HasSlots, HasDebts, HasMasks, Contents, IsObject}
use Rattle.slot_station.proofs.Lists.{lists-set, lists-kept, get-set_same, get-set_other, pair-within}

-- what an object keeps, part by part
abbrev pub contents_of : Shape → List Slot → List Bool → List ℕ → List Place → List ℕ → List ℕ → ℕ → ℕ → List Logged → Contents
contents_of d slots owing counts places returns changes admitted finished log = record {
  shape = d;
  slots = slots;
  owing = owing;
  debts = counts;
  places = places;
  returns = returns;
  changes = changes;
  admitted = admitted;
  finished = finished;
  log = log;
}

module _ (d : Shape) where
  pub slots-set : (slots : List Slot) (f : ℕ → SlotState) (k : ℕ) (x : SlotState) → HasSlots d slots f → k < d.slots
      → HasSlots d (set slots k (shown x)) (upd f k x)
  slots-set slots f k x has low = record { count = length-set slots k _ ∙ has.count; are = lists-set shown d.slots slots f k x has.count low has.are }

  pub slots-kept : (slots : List Slot) (f : ℕ → SlotState) (k : ℕ) (x : SlotState) → HasSlots d slots f → shown x ≡ shown (f k)
      → HasSlots d slots (upd f k x)
  slots-kept slots f k x has same = record { count = has.count; are = lists-kept shown d.slots slots f k x same has.are }

  debts-kept-at : (owing : List Bool) (counts : List ℕ) (f : ℕ → SlotState) (k : ℕ) (x : SlotState) → HasDebts d owing counts f
      → ((v : ℕ) → v < d.workers → owes x v ≡ owes (f k) v) → (s v : ℕ) → s < d.slots → v < d.workers → Dec (s ≡ k)
      → slice_get owing (s * d.workers + v) ≡ Some (owes (upd f k x s) v)
  debts-kept-at owing counts f k x has same s v in_s in_v (yes e) =
      has.are s v in_s in_v ∙ ap (λ j. Some (owes (f j) v)) e ∙ ap Some (sym (same v in_v)) ∙ ap (λ y. Some (owes y v))
      (sym (upd-same f k x) ∙ ap (upd f k x) (sym e))
  debts-kept-at owing counts f k x has same s v in_s in_v (no ne) = has.are s v in_s in_v ∙ ap (λ y. Some (owes y v)) (sym (upd-else f k x s ne))

  -- nobody's debt changed
  pub debts-kept : (owing : List Bool) (counts : List ℕ) (f : ℕ → SlotState) (k : ℕ) (x : SlotState) → HasDebts d owing counts f
      → ((v : ℕ) → v < d.workers → owes x v ≡ owes (f k) v) → HasDebts d owing counts (upd f k x)
  debts-kept owing counts f k x has same = record {
    count = has.count;
    are = λ s v in_s in_v. debts-kept-at owing counts f k x has same s v in_s in_v (ℕ_discrete s k);
    counts_are = has.counts_are;
    counted = lists-kept (debts d) d.slots counts f k x (count-same d.workers (owes x) (owes (f k)) same) has.counted;
  }

  debts-set-here : (owing : List Bool) (counts : List ℕ) (f : ℕ → SlotState) (k u : ℕ) (x : SlotState) (b : Bool) → HasDebts d owing counts f
      → k < d.slots → u < d.workers → owes x u ≡ b → ((v : ℕ) → v < d.workers → v ≢ u → owes x v ≡ owes (f k) v)
      → (v : ℕ) → v < d.workers → Dec (v ≡ u) → slice_get (set owing (k * d.workers + u) b) (k * d.workers + v) ≡ Some (owes x v)
  debts-set-here owing counts f k u x b has in_k in_u now same v in_v (yes e) =
      let low : k * d.workers + u < length owing = rw has.count (pair-within d.slots d.workers k u in_k in_u) in
      ap (λ j. slice_get (set owing (k * d.workers + u) b) (k * d.workers + j)) e ∙ get-set_same owing (k * d.workers + u) b low ∙ ap Some (sym now) ∙ ap
      (λ j. Some (owes x j)) (sym e)
  debts-set-here owing counts f k u x b has in_k in_u now same v in_v (no ne) =
      get-set_other owing (k * d.workers + u) (k * d.workers + v) b (λ e. ne (let r : v ≡ u = omega arith in r)) ∙ has.are k v in_k in_v ∙ ap Some
      (sym (same v in_v ne))

  debts-set-at : (owing : List Bool) (counts : List ℕ) (f : ℕ → SlotState) (k u : ℕ) (x : SlotState) (b : Bool) → HasDebts d owing counts f
      → k < d.slots → u < d.workers → owes x u ≡ b → ((v : ℕ) → v < d.workers → v ≢ u → owes x v ≡ owes (f k) v)
      → (s v : ℕ) → s < d.slots → v < d.workers → Dec (s ≡ k)
      → slice_get (set owing (k * d.workers + u) b) (s * d.workers + v) ≡ Some (owes (upd f k x s) v)
  debts-set-at owing counts f k u x b has in_k in_u now same s v in_s in_v (yes e) =
      ap (λ j. slice_get (set owing (k * d.workers + u) b) (j * d.workers + v)) e ∙ debts-set-here owing counts f k u x b has in_k in_u now same v in_v
      (ℕ_discrete v u)
      ∙ ap (λ y. Some (owes y v)) (sym (upd-same f k x) ∙ ap (upd f k x) (sym e))
  debts-set-at owing counts f k u x b has in_k in_u now same s v in_s in_v (no ne) =
      get-set_other owing (k * d.workers + u) (s * d.workers + v) b (λ e. ne (same_from_place s v k u d.workers in_v in_u e).0) ∙ has.are s v in_s in_v ∙ ap
      (λ y. Some (owes y v)) (sym (upd-else f k x s ne))

  -- the debt of one worker at one slot changed, and with it the number of debts there
  pub debts-set : (owing : List Bool) (counts : List ℕ) (f : ℕ → SlotState) (k u : ℕ) (x : SlotState) (b : Bool) (c : ℕ) → HasDebts d owing counts f
      → k < d.slots → u < d.workers → owes x u ≡ b → ((v : ℕ) → v < d.workers → v ≢ u → owes x v ≡ owes (f k) v) → c ≡ debts d x
      → HasDebts d (set owing (k * d.workers + u) b) (set counts k c) (upd f k x)
  debts-set owing counts f k u x b c has in_k in_u now same many = record {
    count = length-set owing (k * d.workers + u) b ∙ has.count;
    are = λ s v in_s in_v. debts-set-at owing counts f k u x b has in_k in_u now same s v in_s in_v (ℕ_discrete s k);
    counts_are = length-set counts k c ∙ has.counts_are;
    counted = rw many (lists-set (debts d) d.slots counts f k x has.counts_are in_k has.counted);
  }

-- After a call, where slots, debts, notices and numbers are those of the next state. The worker goes to its next place.
pub after-call : (o : Contents) (w : ℕ) (a : Act) → IsObject o → w < o.shape.workers → IsAllowed o.shape (state_in o.shape o.log) w a
    → (slots : List Slot) (owing : List Bool) (counts returns changes : List ℕ) (admitted finished : ℕ)
    → (let S = next o.shape (state_in o.shape o.log) w a in HasSlots o.shape slots S.slots × HasDebts o.shape owing counts S.slots
    × HasMasks o.shape S.returns returns × HasMasks o.shape S.changes changes × (admitted ≡ S.admitted) × (finished ≡ S.finished))
    → IsObject (contents_of o.shape slots owing counts (set o.places w (moved o.shape a ((state_in o.shape o.log).places w))) returns changes admitted finished
    (call w a ∷ o.log))
after-call o w a ok low allowed slots owing counts returns changes admitted finished new = record {
  shape = ok.shape;
  legal = (low, allowed, ok.legal);
  slots_are = new.0;
  debts_are = new.1;
  places_are = places-set o.shape o.places (state_in o.shape o.log).places w (moved o.shape a ((state_in o.shape o.log).places w)) ok.places_are low;
  returns_are = new.2;
  changes_are = new.3;
  admitted_is = new.4;
  finished_is = new.5;
}
