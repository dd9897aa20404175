-- What a write to one slot leaves of the reach.
use Rattle.std.proofs.Common.{◌≡◌, ℕ, ◌+◌, ◌<◌, ◌≤◌, false, List, length, set, length-set, max, ap, ◌∙◌, ⊎_elim, arith}
use Rattle.std.proofs.lemmas.List.{get_or-set_same, get_or-set_other}
use Rattle.std.proofs.lemmas.Bool.{cases_eq}
use Rattle.stride_set.specs.declared.Slot.{Slot}
use Rattle.stride_set.specs.Slots.{idle, active_in, IsReach}

-- one slot of a list is written, whose active slots were all among the first `reach`
module _ (slots : List Slot) (s : ℕ) (slot : Slot) (reach : ℕ) (h : IsReach slots reach) (below : s < length slots) where
  -- then all are among the first `to`, if that is no less and the slot is not an active one from there on
  IsReach-set : (to : ℕ) → reach ≤ to → to ≤ length slots → (to ≤ s → slot.active ≡ false) → IsReach (set slots s slot) to
  IsReach-set to grows within off = record {
    within = rw length-set within;
    idle_beyond = λ j past. ⊎_elim (here j past) (there j past) (cases_eq j s);
  }
    where
      here : (j : ℕ) → to ≤ j → j ≡ s → active_in (set slots s slot) j ≡ false
      here j past e = ap (active_in (set slots s slot)) e ∙ ap (λ (x : Slot). x.active) (get_or-set_same slots s slot idle below) ∙ off (omega arith)

      there : (j : ℕ) → to ≤ j → (j ≡ s → ⊥) → active_in (set slots s slot) j ≡ false
      there j past ne = ap (λ (x : Slot). x.active) (get_or-set_other slots s j slot idle ne) ∙ h.idle_beyond j (omega arith)

  -- so a slot that joins raises the reach to take it in
  pub IsReach-joined : (to : ℕ) → to ≡ max reach (s + 1) → IsReach (set slots s slot) to
  IsReach-joined to e = IsReach-set to (omega arith) (omega (arith, h.within)) (λ past. absurd (omega arith))

  -- and the reach stays if the slot is not active then, or is as active as before
  pub IsReach-dropped : slot.active ≡ false → IsReach (set slots s slot) reach
  IsReach-dropped off = IsReach-set reach (omega arith) h.within (λ past. off)

  pub IsReach-kept : slot.active ≡ active_in slots s → IsReach (set slots s slot) reach
  IsReach-kept same = IsReach-set reach (omega arith) h.within (λ past. same ∙ h.idle_beyond s past)
