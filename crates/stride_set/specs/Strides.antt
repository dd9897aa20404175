-- The state of a stride set, what each call does to it, and the bounds that hold between calls.
use Rattle.std.specs.Prelude.{◌≡◌, ℕ, Bool, true, false, Option, List, [], ◌∷◌, ◌+◌, ◌-◌, ◌*◌, ◌/◌}
use Rattle.std.specs.Prelude.{◌^◌, ◌<◌, ◌≤◌, ◌==◌, length, min, max, if◌then◌else◌}
use Rattle.stride_set.specs.declared.Slot.{Slot}
use Rattle.stride_set.specs.declared.TheConstants.{STRIDE_UNIT}
use Rattle.stride_set.specs.Slots.{active_in, pass_in, spread_from, choice_from, IsLeastActive}

-- what contracts see of a `StrideSet`
pub record StrideState : Type 0 where
  pub slots : List Slot
  pub floor : ℕ
  pub largest : ℕ
  pub widest : ℕ

-- the same with a slot's parts as functions of its number; past the last slot none is active
pub record Strides : Type 0 where
  pub slots : ℕ
  pub active : ℕ → Bool
  pub pass : ℕ → ℕ
  pub floor : ℕ
  pub largest : ℕ
  pub widest : ℕ

abbrev pub strides_of : StrideState → Strides
strides_of v = record {
  slots = length v.slots;
  active = active_in v.slots;
  pass = pass_in v.slots;
  floor = v.floor;
  largest = v.largest;
  widest = v.widest;
}

-- a set of slots of which none is active
abbrev pub new_strides : ℕ → Strides
new_strides n = record {
  slots = n;
  active = λ _. false;
  pass = λ _. 0;
  floor = 0;
  largest = 0;
  widest = 0;
}

-- the same function but for the value x at k
abbrev pub with_one : {A : Type 0} → (ℕ → A) → ℕ → A → ℕ → A
with_one f k x j = if j == k then x else f j

-- the advance for so many nanoseconds: the stride, which is inversely proportional to the priority,
-- scaled by the time used
abbrev pub advance_of : ℕ → ℕ → ℕ
advance_of ns priority = ns * STRIDE_UNIT / priority

-- the choice: the active slot of least pass, the least slot among ties
abbrev pub choice_of : Strides → Option ℕ
choice_of st = choice_from st.slots st.active st.pass

-- the greatest difference of the passes of two active slots
abbrev pub spread_of : Strides → ℕ
spread_of st = spread_from st.slots st.active st.pass

-- a call that changes a set; a `choose` that finds no active slot changes nothing, and is none
pub data Call : Type 0 where
  JoinChange : ℕ → Call
  JoinReturn : ℕ → Call
  DropSlot : ℕ → Call
  -- a `choose` that answers this slot
  Choose : ℕ → Call
  -- the slot, the nanoseconds and the priority
  Advance : ℕ → ℕ → ℕ → Call

-- what a call does to the slots, the floor and the largest advance
abbrev pub moved_by : Strides → Call → Strides
moved_by st (JoinChange s) =
    record st { active = with_one st.active s true; pass = with_one st.pass s st.floor }
moved_by st (JoinReturn s) =
    record st {
      active = with_one st.active s true;
      pass = with_one st.pass s (max (st.pass s) st.floor);
    }
moved_by st (DropSlot s) = record st { active = with_one st.active s false }
moved_by st (Choose s) = record st { floor = st.pass s }
moved_by st (Advance s ns priority) =
    record st {
      pass = with_one st.pass s (min (st.pass s + advance_of ns priority) (2 ^ 128 - 1));
      largest = max st.largest (advance_of ns priority);
    }

-- the state after a call: after each one `widest` takes in the passes of the slots that are active
-- now
abbrev pub stride_after : Strides → Call → Strides
stride_after st call =
    let new = moved_by st call in record new { widest = max st.widest (spread_of new) }

-- s is the active slot of least pass, and the least slot among ties
abbrev pub IsChoice : Strides → ℕ → Type 0
IsChoice st s = IsLeastActive st.slots st.active st.pass s

-- slot s may advance: it is active, and its pass is the floor, as after the `choose` that answered
-- it
pub record MayAdvance (st : Strides) (s : ℕ) : Type 0 where
  pub in_range : s < st.slots
  pub active : st.active s ≡ true
  pub at_floor : st.pass s ≡ st.floor

-- the bounds that hold between any two calls
pub record IsBounded (st : Strides) : Type 0 where
  pub active : (s : ℕ) → s < st.slots → st.active s ≡ true → st.floor ≤ st.pass s
  pub every : (s : ℕ) → s < st.slots → st.pass s ≤ st.floor + st.largest
  pub widest : st.widest ≤ st.largest
  pub counted : spread_of st ≤ st.widest
  pub fits : (s : ℕ) → s < st.slots → st.pass s < 2 ^ 128
  pub floor_fits : st.floor < 2 ^ 128

-- the call meets its conditions
abbrev pub IsLawful : Strides → Call → Type 0
IsLawful st (JoinChange s) = s < st.slots
IsLawful st (JoinReturn s) = s < st.slots
IsLawful st (DropSlot s) = s < st.slots
IsLawful st (Choose s) = IsChoice st s
IsLawful st (Advance s ns priority) = MayAdvance st s

-- each of the calls, made one after another, meets its conditions
abbrev pub AreLawful : Strides → List Call → Type 0
AreLawful st [] = Unit {0}
AreLawful st (call ∷ calls) = IsLawful st call × AreLawful (stride_after st call) calls

-- the greatest difference of the passes of two slots that were active at the same time after any of
-- the calls
abbrev pub widest_gap : Strides → List Call → ℕ
widest_gap st [] = 0
widest_gap st (call ∷ calls) =
    let new = stride_after st call in max (spread_of new) (widest_gap new calls)
