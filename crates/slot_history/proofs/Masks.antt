-- The number whose bits are a set, and the word of a mask when a notice comes and when notices are taken.
use Rattle.std.proofs.Common.{◌≡◌, ◌≢◌, ℕ, zero, suc, ◌+◌, ◌-◌, ◌*◌, ◌/◌, ◌^◌, ◌%◌, ◌<◌, Bool, true}
use Rattle.std.proofs.Common.{false, cond, eqb, bit_or, refl, sym, ap, ◌∙◌, lit<, eq-eqb, ne_eqb}
use Rattle.std.proofs.Common.{arith}
use Rattle.std.specs.Int.{bit_at, w64}
use mathlib.Core.Logic.{dite}
use native.Mathlib.Decide.{ℕ_discrete}
use lib.Bits.{or_lt}
use Rattle.std.proofs.lemmas.Nat.Bits.{bit_at_cat_low, bit_at_cat_high, bit_at_lowest}
use Rattle.std.proofs.lemmas.Nat.Bits.{bit_at_set_same, bit_at_set_other, bit_at-zero}
use Rattle.std.proofs.lemmas.Nat.Bits.{same_from_bits_below}
use Rattle.std.proofs.Math.Nat.{pow-suc}
use Rattle.std.proofs.lemmas.Bool.{cond_both}
use Rattle.slot_history.specs.Sets.{upd}
use Rattle.slot_history.specs.Steps.{taken, is_in_part}
use Rattle.slot_history.specs.Allowed.{IsMask, bit_of}
use Rattle.slot_history.specs.Calls.{mask_of}
use Rattle.slot_history.proofs.Sets.{upd-else}

mask-small : (n : ℕ) (f : ℕ → Bool) → mask_of n f < 2 ^ n
unfolding mask_of
mask-small zero f = lit< tt
mask-small (suc n) f =
    let p : 2 ^ suc n ≡ 2 ^ n * 2 = pow-suc 2 n in
    let r : mask_of n f < 2 ^ n = mask-small n f in
    cond_both (f n) 1 0 (λ b. b * 2 ^ n + mask_of n f < 2 ^ suc n) (λ t. omega arith) (λ t. omega arith)

lowest : (b : Bool) → bit_at (cond b 1 0) 0 ≡ cond b 1 0
lowest b = bit_at_lowest (cond b 1 0) ∙ cond_both b 1 0 (λ k. k % 2 ≡ k) (λ t. refl) (λ t. refl)

mask-bit : (n : ℕ) (f : ℕ → Bool) (k : ℕ) → k < n → bit_at (mask_of n f) k ≡ cond (f k) 1 0
unfolding mask_of
mask-bit zero f k low = absurd (omega arith)
mask-bit (suc n) f k low = dite (ℕ_discrete k n)
    (λ e. ap (bit_at (cond (f n) 1 0 * 2 ^ n + mask_of n f)) e ∙ bit_at_cat_high (cond (f n) 1 0) n (mask_of n f) n (mask-small n f) (omega arith)
    ∙ ap (bit_at (cond (f n) 1 0)) (let z : n - n ≡ 0 = omega arith in z) ∙ lowest (f n) ∙ ap (λ j. cond (f j) 1 0) (sym e))
    (λ other. bit_at_cat_low (cond (f n) 1 0) n (mask_of n f) k (omega arith) ∙ mask-bit n f k (omega arith))

-- it is the mask of the pending notices of a part, and the only one
pub mask-is : (part : ℕ) (pending : ℕ → Bool) → IsMask part pending (mask_of 64 (λ k. pending (part * 64 + k)))
mask-is part pending = record { small = mask-small 64 (λ k. pending (part * 64 + k)); each = λ k low. mask-bit 64 (λ j. pending (part * 64 + j)) k low }

pub mask-only : (part : ℕ) (pending : ℕ → Bool) (bits : ℕ) → IsMask part pending bits → bits ≡ mask_of 64 (λ k. pending (part * 64 + k))
mask-only part pending bits is = let m = mask-is part pending in same_from_bits_below 64 bits (mask_of 64 (λ k. pending (part * 64 + k))) is.small m.small
    (λ k low. is.each k low ∙ sym (m.each k low))

-- ---- a notice that comes

set-bit : (n k j b : ℕ) → k < 64 → bit_at n j ≡ b → Dec (j ≡ k) → bit_at (bit_or n (1 * 2 ^ k % 2 ^ 64)) j ≡ cond (eqb j k) 1 b
set-bit n k j b low was (yes e) = ap (bit_at (bit_or n (1 * 2 ^ k % 2 ^ 64))) e ∙ bit_at_set_same w64 n k low ∙ ap (λ c. cond c 1 b) (sym (eq-eqb j k e))
set-bit n k j b low was (no ne) = bit_at_set_other w64 n k low j ne ∙ was ∙ ap (λ c. cond c 1 b) (sym (ne_eqb j k ne))

-- a slot of a part is its number there
place-eqb : (s j : ℕ) → j < 64 → Dec (j ≡ s % 64) → eqb (s / 64 * 64 + j) s ≡ eqb j (s % 64)
place-eqb s j low (yes e) = eq-eqb (s / 64 * 64 + j) s (omega arith) ∙ sym (eq-eqb j (s % 64) e)
place-eqb s j low (no ne) = ne_eqb (s / 64 * 64 + j) s (λ e. ne (omega arith)) ∙ sym (ne_eqb j (s % 64) ne)

cond-or : (b c : Bool) → ◌≡◌ {A = ℕ} (cond b 1 (cond c 1 0)) (cond (cond b true c) 1 0)
cond-or true c = refl
cond-or false c = refl

-- the word of the slot's part gets its bit
pub mask-comes : (f : ℕ → Bool) (n s : ℕ) → IsMask (s / 64) f n → IsMask (s / 64) (upd f s true) (bit_or n (bit_of s))
mask-comes f n s was = record {
  small = or_lt 64 n (bit_of s) was.small (omega arith);
  each = λ j low. set-bit n (s % 64) j (cond (f (s / 64 * 64 + j)) 1 0) (omega arith) (was.each j low) (ℕ_discrete j (s % 64))
      ∙ cond-or (eqb j (s % 64)) (f (s / 64 * 64 + j)) ∙ ap
      (λ b. cond (cond b true (f (s / 64 * 64 + j))) 1 0) (sym (place-eqb s j low (ℕ_discrete j (s % 64))));
}

-- and the word of another part stays
pub mask-stays : (f : ℕ → Bool) (part n s : ℕ) → part ≢ s / 64 → IsMask part f n → IsMask part (upd f s true) n
mask-stays f part n s ne was = record {
  small = was.small;
  each = λ j low. was.each j low ∙ ap (λ b. cond b 1 0) (sym (upd-else f s true (part * 64 + j) (λ e. ne (omega arith))));
}

-- ---- notices that are taken

in-part : (part j : ℕ) → j < 64 → is_in_part part (part * 64 + j) ≡ true
in-part part j low = eq-eqb ((part * 64 + j) / 64) part (omega arith)

not-in-part : (part q j : ℕ) → j < 64 → q ≢ part → is_in_part part (q * 64 + j) ≡ false
not-in-part part q j low ne = ne_eqb ((q * 64 + j) / 64) part (λ e. ne (omega arith))

-- the word of the part is 0
pub mask-taken : (f : ℕ → Bool) (part : ℕ) → IsMask part (taken part f) 0
mask-taken f part = record {
  small = omega arith;
  each = λ j low. bit_at-zero j ∙ ap (λ b. cond (cond b false (f (part * 64 + j))) 1 0) (sym (in-part part j low));
}

-- and the word of another part stays
pub mask-left : (f : ℕ → Bool) (part q n : ℕ) → q ≢ part → IsMask q f n → IsMask q (taken part f) n
mask-left f part q n ne was = record {
  small = was.small;
  each = λ j low. was.each j low ∙ ap (λ b. cond (cond b false (f (q * 64 + j))) 1 0) (sym (not-in-part part q j low ne));
}
