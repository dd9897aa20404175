use Rattle.std.proofs.Common.{◌≡◌, ℕ, ◌+◌, ◌-◌, ◌^◌, ◌<◌, ◌≤◌, ◌⊎◌, ◌&&◌, Bool, true, false, suc, zero, min, max, cond, List, length, refl, sym, ap}
use Rattle.std.proofs.Common.{◌∙◌, ⊎_elim, inl, inr, below_more, arith}
use Rattle.std.proofs.lemmas.Bool.{cases_lt, false≢true}
use Rattle.stride_set.specs.declared.Slot.{Slot}
use Rattle.stride_set.specs.Slots.{greatest, lead_of, spread_from, spread_among, active_in, pass_in, IsReach}

-- the greatest of f bounds each
pub greatest-bound : (n : ℕ) (f : ℕ → ℕ) (k : ℕ) → k < n → f k ≤ greatest n f
unfolding greatest
greatest-bound zero f k h = absurd (omega arith)
greatest-bound (suc n) f k h =
    ⊎_elim (λ below. omega (arith, greatest-bound n f k below)) (λ above. omega (arith, ap f (last above))) (cases_lt k n)
  where
    last : n ≤ k → k ≡ n
    last above = omega arith

-- and is the least such bound
pub greatest-least : (n : ℕ) (f : ℕ → ℕ) (m : ℕ) → ((k : ℕ) → k < n → f k ≤ m) → greatest n f ≤ m
unfolding greatest
greatest-least zero f m h = omega arith
greatest-least (suc n) f m h = omega (arith, greatest-least n f m (λ k below. h k (omega arith)), h n (omega arith))

-- two active slots are no further apart than the spread
pub spread_from-bound : (n : ℕ) (active : ℕ → Bool) (pass : ℕ → ℕ) (s t : ℕ) → s < n → t < n → active s ≡ true → active t ≡ true → pass s - pass t ≤
    spread_from n active pass
spread_from-bound n active pass s t hs ht on_s on_t =
    let lead : lead_of active pass s t ≡ pass s - pass t = rw (on_s, on_t) refl in
    omega (arith, lead, greatest-bound n (λ t. lead_of active pass s t) t ht, greatest-bound n (λ s. greatest n (λ t. lead_of active pass s t)) s hs)

-- a slot leads another by no more than active slots do
lead_of-least : (active : ℕ → Bool) (pass : ℕ → ℕ) (s t m : ℕ) → (active s ≡ true → active t ≡ true → pass s - pass t ≤ m) → lead_of active pass s t ≤ m
lead_of-least active pass s t m h = by_cases (active s) (active t) h
  where
    by_cases : (a b : Bool) → (a ≡ true → b ≡ true → pass s - pass t ≤ m) → cond (a && b) (pass s - pass t) 0 ≤ m
    by_cases true true h = h refl refl
    by_cases true false h = omega arith
    by_cases false b h = omega arith

-- and the spread is the least such bound
pub spread_from-least : (n : ℕ) (active : ℕ → Bool) (pass : ℕ → ℕ) (m : ℕ) →
    ((s t : ℕ) → s < n → t < n → active s ≡ true → active t ≡ true → pass s - pass t ≤ m) → spread_from n active pass ≤ m
spread_from-least n active pass m h =
    greatest-least n _ m (λ s hs. greatest-least n _ m (λ t ht. lead_of-least active pass s t m (h s t hs ht)))

-- slots that are not active change no spread
spread_from-reach : (n : ℕ) (active : ℕ → Bool) (pass : ℕ → ℕ) (reach : ℕ) → reach ≤ n → ((s : ℕ) → reach ≤ s → active s ≡ false)
    → spread_from reach active pass ≡ spread_from n active pass
spread_from-reach n active pass reach within idle = omega (arith, fewer, more)
  where
    below : (s : ℕ) → active s ≡ true → s < reach
    below s on = ⊎_elim (λ lt. lt) (λ past. absurd (false≢true (sym (idle s past) ∙ on))) (cases_lt s reach)

    fewer : spread_from reach active pass ≤ spread_from n active pass
    fewer = spread_from-least reach active pass _ (λ s t hs ht. spread_from-bound n active pass s t (omega arith) (omega arith))

    more : spread_from n active pass ≤ spread_from reach active pass
    more = spread_from-least n active pass _ (λ s t hs ht on_s on_t. spread_from-bound reach active pass s t (below s on_s) (below t on_t) on_s on_t)

-- and so of the slots of a list
pub spread_among-reach : (slots : List Slot) (reach : ℕ) → IsReach slots reach → spread_from reach (active_in slots) (pass_in slots) ≡ spread_among slots
spread_among-reach slots reach h = spread_from-reach (length slots) (active_in slots) (pass_in slots) reach h.within h.idle_beyond

-- among the first n slots `low` is the least active pass and `high` the greatest, if any slot is active
pub record HasEnds (n : ℕ) (active : ℕ → Bool) (pass : ℕ → ℕ) (low high : ℕ) : Type 0 where
  pub low_below : (s : ℕ) → s < n → active s ≡ true → low ≤ pass s
  pub high_above : (s : ℕ) → s < n → active s ≡ true → pass s ≤ high
  pub low_met : (low ≡ 2 ^ 128 - 1) ⊎ ((s : ℕ) × (s < n) × (active s ≡ true) × (pass s ≡ low))
  pub high_fits : high < 2 ^ 128
  pub high_met : (high ≡ 0) ⊎ ((s : ℕ) × (s < n) × (active s ≡ true) × (pass s ≡ high))

-- then they are the spread apart
pub spread_from-ends : (n : ℕ) (active : ℕ → Bool) (pass : ℕ → ℕ) (low high : ℕ) → HasEnds n active pass low high → high - low ≡ spread_from n active pass
spread_from-ends n active pass low high h = omega (arith, within, reached h.high_met h.low_met)
  where
    within : spread_from n active pass ≤ high - low
    within = spread_from-least n active pass (high - low) (λ s t hs ht on_s on_t. omega (arith, h.high_above s hs on_s, h.low_below t ht on_t))

    reached : (high ≡ 0) ⊎ ((s : ℕ) × (s < n) × (active s ≡ true) × (pass s ≡ high)) → (low ≡ 2 ^ 128 - 1) ⊎
        ((s : ℕ) × (s < n) × (active s ≡ true) × (pass s ≡ low)) → high - low ≤ spread_from n active pass
    reached (inl e) l = omega arith
    reached (inr w) (inl e) = omega arith
    reached (inr w) (inr v) = omega (arith, spread_from-bound n active pass w.0 v.0 w.1 v.1 w.2 v.2, w.3, v.3)

-- no slot, no ends
pub HasEnds-none : (active : ℕ → Bool) (pass : ℕ → ℕ) → HasEnds 0 active pass (2 ^ 128 - 1) 0
HasEnds-none active pass = record {
  low_below = λ s h a. absurd (omega arith);
  high_above = λ s h a. absurd (omega arith);
  low_met = inl refl;
  high_fits = omega arith;
  high_met = inl refl;
}

-- a slot that is not active changes no end
pub HasEnds-skip : (n : ℕ) (active : ℕ → Bool) (pass : ℕ → ℕ) (low high : ℕ) → active n ≡ false → HasEnds n active pass low high → HasEnds (n + 1)
    active pass low high
HasEnds-skip n active pass low high idle h = record {
  low_below = below_more (λ s. active s ≡ true → low ≤ pass s) n h.low_below (λ on. absurd (false≢true (sym idle ∙ on)));
  high_above = below_more (λ s. active s ≡ true → pass s ≤ high) n h.high_above (λ on. absurd (false≢true (sym idle ∙ on)));
  low_met = ⊎_elim inl (λ w. inr (w.0, omega (arith, w.1), w.2, w.3)) h.low_met;
  high_fits = h.high_fits;
  high_met = ⊎_elim inl (λ w. inr (w.0, omega (arith, w.1), w.2, w.3)) h.high_met;
}

-- an active one may be an end
pub HasEnds-take : (n : ℕ) (active : ℕ → Bool) (pass : ℕ → ℕ) (low high : ℕ) → active n ≡ true → max high (pass n) < 2 ^ 128 → HasEnds n active pass
    low high → HasEnds (n + 1) active pass (min low (pass n)) (max high (pass n))
HasEnds-take n active pass low high on fits h = record {
  low_below = below_more (λ s. active s ≡ true → min low (pass n) ≤ pass s) n (λ s below on_s. omega (arith, h.low_below s below on_s)) (λ on_n. omega arith);
  high_above = below_more (λ s. active s ≡ true → pass s ≤ max high (pass n)) n (λ s below on_s. omega (arith, h.high_above s below on_s))
      (λ on_n. omega arith);
  low_met = ⊎_elim (λ lt. inr (n, omega arith, on, omega arith))
      (λ ge. ⊎_elim (λ e. inl (omega arith)) (λ w. inr (w.0, omega (arith, w.1), w.2, omega (arith, w.3))) h.low_met) (cases_lt (pass n) low);
  high_fits = fits;
  high_met = ⊎_elim (λ lt. inr (n, omega arith, on, omega arith))
      (λ ge. ⊎_elim (λ e. inl (omega arith)) (λ w. inr (w.0, omega (arith, w.1), w.2, omega (arith, w.3))) h.high_met) (cases_lt high (pass n));
}
