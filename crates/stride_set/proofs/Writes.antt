use Rattle.std.proofs.Common.{◌≡◌, ℕ, ◌+◌, ◌-◌, ◌*◌, ◌/◌, ◌^◌, ◌<◌, ◌≤◌, Bool, true, false, List, length, get_or, set, length-set, min, max, refl, replicate}
use Rattle.std.proofs.Common.{sym, ap, ◌∙◌, ⊎_elim, arith}
use Rattle.std.proofs.Math.Path.{fun_ext}
use Rattle.std.proofs.lemmas.List.{get_or-set_same, get_or-set_other, get_or_read, get_or-replicate, length-replicate, get_or_past}
use Rattle.std.proofs.lemmas.Bool.{cases_eq, cases_lt, false≢true}
use Rattle.std.proofs.lemmas.Bool.Decides.{nat_tests}
use Rattle.stride_set.specs.declared.Slot.{Slot}
use Rattle.stride_set.specs.declared.TheConstants.{STRIDE_UNIT}
use Rattle.stride_set.specs.Slots.{idle, active_in, pass_in, spread_from, spread_among}
use Rattle.stride_set.proofs.Spreads.{spread_from-bound, spread_from-least}
use Rattle.stride_set.specs.Strides.{StrideState, Strides, IsBounded, MayAdvance, moved_by, spread_of, JoinChange}
use Rattle.stride_set.specs.Strides.{JoinReturn, DropSlot, Choose, Advance, strides_of, stride_after, advance_of, new_strides, with_one}

-- the changed function at its place, and elsewhere
pub with_one-same : {A : Type 0} (f : ℕ → A) (k j : ℕ) (x : A) → j ≡ k → with_one f k x j ≡ x
with_one-same f k j x e = grind (arith, nat_tests)

pub with_one-other : {A : Type 0} (f : ℕ → A) (k j : ℕ) (x : A) → (j ≡ k → ⊥) → with_one f k x j ≡ f j
with_one-other f k j x ne = grind (arith, nat_tests)

-- a write to one slot changes what is read of the slots at its number
read-set : {A : Type 0} (read : Slot → A) (slots : List Slot) (s : ℕ) (slot : Slot) → s < length slots
    → (λ j. read (get_or (set slots s slot) j idle)) ≡ with_one (λ j. read (get_or slots j idle)) s (read slot)
read-set {A} read slots s slot below = fun_ext (λ j. ⊎_elim (here j) (there j) (cases_eq j s))
  where
    before : ℕ → A
    before j = read (get_or slots j idle)

    here : (j : ℕ) → j ≡ s → read (get_or (set slots s slot) j idle) ≡ with_one before s (read slot) j
    here j e = ap read (ap (λ k. get_or (set slots s slot) k idle) e ∙ get_or-set_same slots s slot idle below) ∙ sym (with_one-same before s j (read slot) e)

    there : (j : ℕ) → (j ≡ s → ⊥) → read (get_or (set slots s slot) j idle) ≡ with_one before s (read slot) j
    there j ne = ap read (get_or-set_other slots s j slot idle ne) ∙ sym (with_one-other before s j (read slot) ne)

-- to write the value that is there changes nothing
with_one-kept : {A : Type 0} (f : ℕ → A) (k : ℕ) (x : A) → x ≡ f k → with_one f k x ≡ f
with_one-kept f k x kept = fun_ext (λ j. ⊎_elim (here j) (with_one-other f k j x) (cases_eq j k))
  where
    here : (j : ℕ) → j ≡ k → with_one f k x j ≡ f j
    here j e = with_one-same f k j x e ∙ kept ∙ ap f (sym e)

-- a slot that is read is the one at its place
pub active_in-read : (slots : List Slot) (s : ℕ) (slot : Slot) → s < length slots → slot ≡ get_or slots s slot → slot.active ≡ active_in slots s
active_in-read slots s slot below read = ap (λ (slot : Slot). slot.active) (get_or_read slots s slot below read idle)

pub pass_in-read : (slots : List Slot) (s : ℕ) (slot : Slot) → s < length slots → slot ≡ get_or slots s slot → slot.pass ≡ pass_in slots s
pass_in-read slots s slot below read = ap (λ (slot : Slot). slot.pass) (get_or_read slots s slot below read idle)

-- the passes after a write to slot s are `active` and `pass`
record Becomes (slots : List Slot) (s : ℕ) (slot : Slot) (active : ℕ → Bool) (pass : ℕ → ℕ) : Type 0 where
  within : s < length slots
  states : with_one (active_in slots) s slot.active ≡ active
  passes : with_one (pass_in slots) s slot.pass ≡ pass

active_in-set : (slots : List Slot) (s : ℕ) (slot : Slot) (active : ℕ → Bool) (pass : ℕ → ℕ) → Becomes slots s slot active pass → active_in
    (set slots s slot) ≡ active
active_in-set slots s slot active pass h = read-set (λ slot. slot.active) slots s slot h.within ∙ h.states

pass_in-set : (slots : List Slot) (s : ℕ) (slot : Slot) (active : ℕ → Bool) (pass : ℕ → ℕ) → Becomes slots s slot active pass → pass_in
    (set slots s slot) ≡ pass
pass_in-set slots s slot active pass h = read-set (λ slot. slot.pass) slots s slot h.within ∙ h.passes

-- the spread after such a write
spread_among-set : (slots : List Slot) (s : ℕ) (slot : Slot) (active : ℕ → Bool) (pass : ℕ → ℕ) → Becomes slots s slot active pass → spread_among
    (set slots s slot) ≡ spread_from (length slots) active pass
spread_among-set slots s slot active pass h = λ i. spread_from (length-set slots s slot i) (active_in-set slots s slot active pass h i)
    (pass_in-set slots s slot active pass h i)

-- and what contracts see then
strides_of-set : (v : StrideState) (s : ℕ) (slot : Slot) (active : ℕ → Bool) (pass : ℕ → ℕ) (largest most widest : ℕ) → Becomes v.slots s slot active
    pass → largest ≡ most → widest ≡ max v.widest (spread_from (length v.slots) active pass)
    → strides_of (record { slots = set v.slots s slot; floor = v.floor; largest = largest; widest = widest }) ≡ record {
      slots = length v.slots;
      active = active;
      pass = pass;
      floor = v.floor;
      largest = most;
      widest = max v.widest
          (spread_from (length v.slots) active pass);
    }
strides_of-set v s slot active pass largest most widest h l w = λ i. record {
  slots = length-set v.slots s slot i;
  active = active_in-set v.slots s slot active pass h i;
  pass = pass_in-set v.slots s slot active pass h i;
  floor = v.floor;
  largest = l i;
  widest = w i;
}

-- what `join_change` writes
pub strides_of-join_change : (v : StrideState) (s widest : ℕ) → s < length v.slots
    → widest ≡ max v.widest (spread_among (set v.slots s (record { active = true; pass = v.floor })))
    → strides_of (record v { slots = set v.slots s (record { active = true; pass = v.floor }); widest = widest }) ≡ stride_after (strides_of v) (JoinChange s)
strides_of-join_change v s widest below w =
    strides_of-set v s slot active pass v.largest v.largest widest h refl (w ∙ ap (max v.widest) (spread_among-set v.slots s slot active pass h))
  where
    slot : Slot
    slot = record { active = true; pass = v.floor }

    active : ℕ → Bool
    active = with_one (active_in v.slots) s true

    pass : ℕ → ℕ
    pass = with_one (pass_in v.slots) s v.floor

    h : Becomes v.slots s slot active pass
    h = record { within = below; states = refl; passes = refl }

-- what `join_return` writes
pub strides_of-join_return : (v : StrideState) (s p widest : ℕ) → s < length v.slots → p ≡ max (pass_in v.slots s) v.floor
    → widest ≡ max v.widest (spread_among (set v.slots s (record { active = true; pass = p })))
    → strides_of (record v { slots = set v.slots s (record { active = true; pass = p }); widest = widest }) ≡ stride_after (strides_of v) (JoinReturn s)
strides_of-join_return v s p widest below e w =
    strides_of-set v s slot active pass v.largest v.largest widest h refl (w ∙ ap (max v.widest) (spread_among-set v.slots s slot active pass h))
  where
    slot : Slot
    slot = record { active = true; pass = p }

    active : ℕ → Bool
    active = with_one (active_in v.slots) s true

    pass : ℕ → ℕ
    pass = with_one (pass_in v.slots) s (max (pass_in v.slots s) v.floor)

    h : Becomes v.slots s slot active pass
    h = record { within = below; states = refl; passes = ap (with_one (pass_in v.slots) s) e }

-- fewer active slots spread no further
spread_from-drop : (n : ℕ) (active : ℕ → Bool) (pass : ℕ → ℕ) (s : ℕ) → spread_from n (with_one active s false) pass ≤ spread_from n active pass
spread_from-drop n active pass s =
    spread_from-least n (with_one active s false) pass (spread_from n active pass)
    (λ t u ht hu on_t on_u. spread_from-bound n active pass t u ht hu (still t on_t) (still u on_u))
  where
    still : (t : ℕ) → with_one active s false t ≡ true → active t ≡ true
    still t on = ⊎_elim (λ e. absurd (false≢true (sym (with_one-same active s t false e) ∙ on))) (λ ne. sym (with_one-other active s t false ne) ∙ on)
        (cases_eq t s)

-- what `drop_slot` writes
pub strides_of-drop_slot : (v : StrideState) (s p : ℕ) → s < length v.slots → p ≡ pass_in v.slots s → spread_among v.slots ≤ v.widest
    → strides_of (record v { slots = set v.slots s (record { active = false; pass = p }) }) ≡ stride_after (strides_of v) (DropSlot s)
strides_of-drop_slot v s p below e counted =
    strides_of-set v s slot active (pass_in v.slots) v.largest v.largest v.widest h refl
    (omega (arith, spread_from-drop (length v.slots) (active_in v.slots) (pass_in v.slots) s))
  where
    slot : Slot
    slot = record { active = false; pass = p }

    active : ℕ → Bool
    active = with_one (active_in v.slots) s false

    h : Becomes v.slots s slot active (pass_in v.slots)
    h = record { within = below; states = refl; passes = with_one-kept (pass_in v.slots) s p e }

-- a slot that may advance was behind all others, so it leads none of them by more than the advance
advanced-spread : (st : Strides) (s ns priority : ℕ) → IsBounded st → MayAdvance st s
    → spread_of (moved_by st (Advance s ns priority)) ≤ max st.widest (advance_of ns priority)
advanced-spread st s ns priority h may = spread_from-least st.slots st.active pass (max st.widest (advance_of ns priority)) gap
  where
    to : ℕ
    to = min (st.pass s + advance_of ns priority) (2 ^ 128 - 1)

    pass : ℕ → ℕ
    pass = with_one st.pass s to

    before : (t u : ℕ) → t < st.slots → u < st.slots → st.active t ≡ true → st.active u ≡ true → st.pass t - st.pass u ≤ st.widest
    before t u ht hu on_t on_u = omega (arith, spread_from-bound st.slots st.active st.pass t u ht hu on_t on_u, h.counted)

    gap : (t u : ℕ) → t < st.slots → u < st.slots → st.active t ≡ true → st.active u ≡ true → pass t - pass u ≤ max st.widest (advance_of ns priority)
    gap t u ht hu on_t on_u =
        ⊎_elim
        (λ e. ⊎_elim
        (λ f. omega (arith, with_one-same st.pass s t to e, with_one-same st.pass s u to f))
        (λ other. omega (arith, with_one-same st.pass s t to e, with_one-other st.pass s u to other, may.at_floor, h.active u hu on_u))
        (cases_eq u s))
        (λ one. ⊎_elim
        (λ f. omega (arith, with_one-other st.pass s t to one, with_one-same st.pass s u to f, before t s ht may.in_range on_t may.active, h.fits t ht))
        (λ other. omega (arith, with_one-other st.pass s t to one, with_one-other st.pass s u to other, before t u ht hu on_t on_u))
        (cases_eq u s))
        (cases_eq t s)

-- slot s of the set v becomes this slot by an advance
pub record IsAdvanced (v : StrideState) (s ns priority : ℕ) (slot : Slot) : Type 0 where
  within : s < length v.slots
  state : slot.active ≡ active_in v.slots s
  moved : slot.pass ≡ min (pass_in v.slots s + advance_of ns priority) (2 ^ 128 - 1)

-- as the slot that is read there does when its pass grows by the advance
pub advanced-is : (v : StrideState) (s ns priority : ℕ) (old : Slot) (divisor stride to : ℕ) → s < length v.slots → old ≡ get_or v.slots s old
    → divisor ≡ priority → stride ≡ ns * STRIDE_UNIT / divisor → to ≡ min (old.pass + stride) (2 ^ 128 - 1)
    → IsAdvanced v s ns priority (record { active = old.active; pass = to })
advanced-is v s ns priority old divisor stride to below read d t e = record {
  within = below;
  state = active_in-read v.slots s old below read;
  moved = e ∙ rw (pass_in-read v.slots s old below read, t, d) refl;
}

module _ (v : StrideState) (s ns priority : ℕ) (slot : Slot) (is : IsAdvanced v s ns priority slot) where
  abbrev pass_then : ℕ → ℕ
  pass_then = with_one (pass_in v.slots) s (min (pass_in v.slots s + advance_of ns priority) (2 ^ 128 - 1))

  becomes : Becomes v.slots s slot (active_in v.slots) pass_then
  becomes = record {
    within = is.within;
    states = with_one-kept (active_in v.slots) s slot.active is.state;
    passes = ap (with_one (pass_in v.slots) s) is.moved;
  }

  -- what `advance` writes
  pub strides_of-advance : (largest widest : ℕ) → largest ≡ max v.largest (advance_of ns priority) → widest ≡ max v.widest (spread_among (set v.slots s slot))
      → strides_of (record { slots = set v.slots s slot; floor = v.floor; largest = largest; widest = widest }) ≡ stride_after (strides_of v)
      (Advance s ns priority)
  strides_of-advance largest widest l w =
      strides_of-set v s slot (active_in v.slots) pass_then largest (max v.largest (advance_of ns priority)) widest becomes l
      (w ∙ ap (max v.widest) (spread_among-set v.slots s slot (active_in v.slots) pass_then becomes))

  -- and how far the passes lie apart then
  pub spread_among-advance : IsBounded (strides_of v) → MayAdvance (strides_of v) s → spread_among (set v.slots s slot) ≤ max v.widest (advance_of ns priority)
  spread_among-advance bounded may =
      rw (spread_among-set v.slots s slot (active_in v.slots) pass_then becomes) (advanced-spread (strides_of v) s ns priority bounded may)

-- what `choose` writes
pub strides_of-choose : (v : StrideState) (s p : ℕ) → p ≡ pass_in v.slots s → spread_among v.slots ≤ v.widest
    → strides_of (record v { floor = p }) ≡ stride_after (strides_of v) (Choose s)
strides_of-choose v s p e counted = λ i. record {
  slots = length v.slots;
  active = active_in v.slots;
  pass = pass_in v.slots;
  floor = e i;
  largest = v.largest;
  widest = widest i;
}
  where
    widest : v.widest ≡ max v.widest (spread_among v.slots)
    widest = omega arith

-- what `new` makes
pub strides_of-new : (n : ℕ) → strides_of (record { slots = replicate n idle; floor = 0; largest = 0; widest = 0 }) ≡ new_strides n
strides_of-new n = λ i. record {
  slots = length-replicate n idle i;
  active = fun_ext (λ s. ap (λ (slot : Slot). slot.active) (all_idle s)) i;
  pass = fun_ext (λ s. ap (λ (slot : Slot). slot.pass) (all_idle s)) i;
  floor = 0;
  largest = 0;
  widest = 0;
}
  where
    all_idle : (s : ℕ) → get_or (replicate n idle) s idle ≡ idle
    all_idle s = ⊎_elim (get_or-replicate n s idle idle) (λ past. get_or_past (replicate n idle) s idle (omega (arith, length-replicate n idle))) (cases_lt s n)
