-- What is kept of a set after a slot joins it, and how the widest gap counts the join.
use Rattle.std.proofs.Common.{◌≡◌, ℕ, List, set, max, true, subst, sym, ap, ◌∙◌}
use Rattle.stride_set.specs.declared.Slot.{Slot}
use Rattle.stride_set.specs.Slots.{spread_among}
use Rattle.stride_set.specs.Strides.{StrideState, Call, IsBounded, IsLawful, strides_of, stride_after}
use Rattle.stride_set.proofs.Bounds.{stride_after-bounded}

-- slot s of the set v joins at the pass p
module _ (v : StrideState) (s p : ℕ) where
  -- the slots then
  abbrev pub slots_joined : List Slot
  slots_joined = set v.slots s (record { active = true; pass = p })

  -- the widest gap then, by the slots that are read for it
  pub widest-joined : (read : List Slot) (spread widest : ℕ) → read ≡ slots_joined → spread ≡ spread_among read → widest ≡ max v.widest spread
      → widest ≡ max v.widest (spread_among slots_joined)
  widest-joined read spread widest reads spreads w = w ∙ ap (max v.widest) (spreads ∙ ap spread_among reads)

  -- the set then is bounded, where the join is this call of the set, which contracts see as `old`
  pub bounded-joined : (call : Call) (widest : ℕ) {old : StrideState} → IsBounded (strides_of v) → v ≡ old
      → IsLawful (strides_of old) call → strides_of (record v { slots = slots_joined; widest = widest }) ≡ stride_after (strides_of old) call
      → IsBounded (strides_of (record v { slots = slots_joined; widest = widest }))
  bounded-joined call widest {old = old} bounded seen lawful is =
      subst IsBounded (sym is) (stride_after-bounded (strides_of old) call (subst (λ x. IsBounded (strides_of x)) seen bounded) lawful)
