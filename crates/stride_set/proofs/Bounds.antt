use Rattle.std.proofs.Common.{◌≡◌, ℕ, ◌+◌, ◌-◌, ◌^◌, ◌<◌, ◌≤◌, true, false, List, [], ◌∷◌, fold, min, max, refl, sym, subst, ⊎_elim, arith}
use Rattle.std.proofs.lemmas.Bool.{cases_eq, false≢true}
use Rattle.stride_set.specs.Strides.{Strides, Call, JoinChange, JoinReturn, DropSlot, Choose, Advance, IsBounded, IsLawful, AreLawful, new_strides}
use Rattle.stride_set.specs.Strides.{moved_by, stride_after, spread_of, advance_of, widest_gap, with_one}
use Rattle.stride_set.proofs.Spreads.{spread_from-least}
use Rattle.stride_set.proofs.Writes.{with_one-same, with_one-other}

-- what is bounded apart from the widest gap
pub record IsPlaced (st : Strides) : Type 0 where
  pub active : (s : ℕ) → s < st.slots → st.active s ≡ true → st.floor ≤ st.pass s
  pub every : (s : ℕ) → s < st.slots → st.pass s ≤ st.floor + st.largest
  pub fits : (s : ℕ) → s < st.slots → st.pass s < 2 ^ 128
  pub floor_fits : st.floor < 2 ^ 128

-- where the passes are within their bounds, so is the widest gap once it is counted
counted : (st : Strides) (widest : ℕ) → IsPlaced st → widest ≤ st.largest → IsBounded (record st { widest = max widest (spread_of st) })
counted st widest h below = record {
  active = h.active;
  every = h.every;
  widest = omega (arith, spread_from-least st.slots st.active st.pass st.largest (λ s t hs ht on_s on_t. omega (arith, h.every s hs, h.active t ht on_t)));
  counted = omega arith;
  fits = h.fits;
  floor_fits = h.floor_fits;
}

-- a fact of each slot and its value, where one value changes
with_one-all : {A : Type 0} (P : ℕ → A → Type 0) (n : ℕ) (f : ℕ → A) (k : ℕ) (x : A) → P k x → ((s : ℕ) → s < n → P s (f s)) → (s : ℕ) → s < n → P s
    (with_one f k x s)
with_one-all P n f k x here others s below =
    ⊎_elim
    (λ e. subst (λ j. P j (with_one f k x j)) (sym e) (subst (P k) (sym (with_one-same f k k x refl)) here))
    (λ ne. subst (P s) (sym (with_one-other f k s x ne)) (others s below))
    (cases_eq s k)

-- the same with two values of a slot
with_one-both : {A B : Type 0} (P : A → B → Type 0) (n : ℕ) (f : ℕ → A) (g : ℕ → B) (k : ℕ) (x : A) (y : B) → P x y →
    ((s : ℕ) → s < n → P (f s) (g s)) → (s : ℕ) → s < n → P (with_one f k x s) (with_one g k y s)
with_one-both P n f g k x y here others s below =
    ⊎_elim
    (λ e. rw (with_one-same f k s x e, with_one-same g k s y e) here)
    (λ ne. rw (with_one-other f k s x ne, with_one-other g k s y ne) (others s below))
    (cases_eq s k)

-- each call leaves the passes within their bounds
moved_by-placed : (st : Strides) (call : Call) → IsBounded st → IsLawful st call → IsPlaced (moved_by st call)
moved_by-placed st (JoinChange s) h below = record {
  active = with_one-both (λ on pass. on ≡ true → st.floor ≤ pass) st.slots st.active st.pass s true st.floor (λ _. omega arith) h.active;
  every = with_one-all (λ _ pass. pass ≤ st.floor + st.largest) st.slots st.pass s st.floor (omega arith) h.every;
  fits = with_one-all (λ _ pass. pass < 2 ^ 128) st.slots st.pass s st.floor h.floor_fits h.fits;
  floor_fits = h.floor_fits;
}
moved_by-placed st (JoinReturn s) h below = record {
  active = with_one-both (λ on pass. on ≡ true → st.floor ≤ pass) st.slots st.active st.pass s true (max (st.pass s) st.floor) (λ _. omega arith) h.active;
  every = with_one-all (λ _ pass. pass ≤ st.floor + st.largest) st.slots st.pass s (max (st.pass s) st.floor) (omega (arith, h.every s below)) h.every;
  fits = with_one-all (λ _ pass. pass < 2 ^ 128) st.slots st.pass s (max (st.pass s) st.floor) (omega (arith, h.fits s below, h.floor_fits)) h.fits;
  floor_fits = h.floor_fits;
}
moved_by-placed st (DropSlot s) h below = record {
  active = with_one-all (λ t on. on ≡ true → st.floor ≤ st.pass t) st.slots st.active s false (λ e. absurd (false≢true e)) h.active;
  every = h.every;
  fits = h.fits;
  floor_fits = h.floor_fits;
}
moved_by-placed st (Choose s) h chosen = record {
  active = chosen.least;
  every = λ t below. omega (arith, h.every t below, h.active s chosen.in_range chosen.is_active);
  fits = h.fits;
  floor_fits = h.fits s chosen.in_range;
}
moved_by-placed st (Advance s ns priority) h may =
    let to = min (st.pass s + advance_of ns priority) (2 ^ 128 - 1) in
    record {
      active = with_one-all (λ t pass. st.active t ≡ true → st.floor ≤ pass) st.slots st.pass s to (λ _. omega (arith, may.at_floor, h.floor_fits)) h.active;
      every = with_one-all (λ _ pass. pass ≤ st.floor + max st.largest (advance_of ns priority)) st.slots st.pass s to (omega (arith, may.at_floor))
          (λ t below. omega (arith, h.every t below));
      fits = with_one-all (λ _ pass. pass < 2 ^ 128) st.slots st.pass s to (omega arith) h.fits;
      floor_fits = h.floor_fits;
    }

-- and `largest` only grows
moved_by-largest : (st : Strides) (call : Call) → st.largest ≤ (moved_by st call).largest
moved_by-largest st (JoinChange s) = omega arith
moved_by-largest st (JoinReturn s) = omega arith
moved_by-largest st (DropSlot s) = omega arith
moved_by-largest st (Choose s) = omega arith
moved_by-largest st (Advance s ns priority) = omega arith

-- so each call keeps the bounds
pub stride_after-bounded : (st : Strides) (call : Call) → IsBounded st → IsLawful st call → IsBounded (stride_after st call)
stride_after-bounded st call h lawful =
    counted (moved_by st call) st.widest (moved_by-placed st call h lawful) (omega (arith, h.widest, moved_by-largest st call))

-- they hold of a new set
pub new_strides-bounded : (n : ℕ) → IsBounded (new_strides n)
new_strides-bounded n = record {
  active = λ s below on. omega arith;
  every = λ s below. omega arith;
  widest = omega arith;
  counted = spread_from-least n (λ _. false) (λ _. 0) 0 (λ s t hs ht on_s on_t. omega arith);
  fits = λ s below. omega arith;
  floor_fits = omega arith;
}

-- and after any lawful calls
pub fold-bounded : (calls : List Call) (st : Strides) → IsBounded st → AreLawful st calls → IsBounded (fold stride_after st calls)
fold-bounded [] st h lawful = h
fold-bounded (call ∷ calls) st h lawful =
    fold-bounded calls (stride_after st call) (stride_after-bounded st call h lawful.0) lawful.1

-- `widest` is the widest gap after any of the calls
pub widest-fold : (calls : List Call) (st : Strides) → (fold stride_after st calls).widest ≡ max st.widest (widest_gap st calls)
widest-fold [] st = omega arith
widest-fold (call ∷ calls) st = omega (arith, widest-fold calls (stride_after st call))
