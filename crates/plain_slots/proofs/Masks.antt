-- Mask words follow the notices that are pending.
use Rattle.std.proofs.Common.{◌≡◌, ℕ, ◌+◌, ◌*◌, ◌/◌, ◌%◌, ◌^◌, ◌<◌, Bool, true, List, length, set, get_or, bit_or, sym, ◌∙◌, subst, length-set, get_or-set_same}
use Rattle.std.proofs.Common.{get_or-set_other, arith}
use native.Mathlib.Decide.{ℕ_discrete}
use Rattle.slot_history.specs.declared.shape.Shape.{Shape}
use Rattle.slot_history.specs.declared.shape.TheConstants.{PARTS}
use Rattle.slot_history.specs.Sets.{upd}
use Rattle.slot_history.specs.Steps.{taken}
use Rattle.slot_history.specs.Allowed.{IsMask}
use Rattle.slot_history.proofs.Masks.{mask-comes, mask-stays, mask-taken, mask-left}
use Rattle.slot_history.proofs.Sets.{upd-cases}
use Rattle.plain_slots.specs.Objects.{HasMasks}

pub word-within : (n w part : ℕ) → w < n → part < PARTS → w * PARTS + part < n * PARTS
word-within n w part low in_ = omega arith

-- the words with one of them set
word-cases : (words : List ℕ) (k q w part x : ℕ) (P : ℕ → Type 0) → k * PARTS + q < length words → q < PARTS → part < PARTS → (w ≡ k → part ≡ q → P x)
    → ((w ≡ k → part ≡ q → ⊥) → P (get_or words (w * PARTS + part) 0)) → Dec (w * PARTS + part ≡ k * PARTS + q)
    → P (get_or (set words (k * PARTS + q) x) (w * PARTS + part) 0)
word-cases words k q w part x P within in_q in_p same other (yes e) =
    subst (λ i. P (get_or (set words (k * PARTS + q) x) i 0)) (sym e)
    (subst P (sym (get_or-set_same words (k * PARTS + q) x 0 within)) (same (omega arith) (omega arith)))
word-cases words k q w part x P within in_q in_p same other (no ne) =
    subst P (sym (get_or-set_other words (k * PARTS + q) (w * PARTS + part) x 0 ne)) (other (λ a b. ne (omega arith)))

pub masks-come : (d : Shape) (pending : ℕ → ℕ → Bool) (words : List ℕ) (k s : ℕ) → HasMasks d pending words → k < d.workers → s / 64 < PARTS
    → HasMasks d (upd pending k (upd (pending k) s true))
    (set words (k * PARTS + s / 64) (bit_or (get_or words (k * PARTS + s / 64) 0) (1 * 2 ^ (s % 64) % 2 ^ 64)))
masks-come d pending words k s has low in_q =
    let n = get_or words (k * PARTS + s / 64) 0 in
    let x = bit_or n (1 * 2 ^ (s % 64) % 2 ^ 64) in
    let at : k * PARTS + s / 64 < length words = let c = has.count in omega arith in record {
      count = length-set words (k * PARTS + s / 64) x ∙ has.count;
      masks = λ w part in_w in_p. upd-cases pending k (upd (pending k) s true) w
          (λ g. IsMask part g (get_or (set words (k * PARTS + s / 64) x) (w * PARTS + part) 0))
          (λ e. word-cases words k (s / 64) w part x (λ y. IsMask part (upd (pending k) s true) y) at in_q in_p
          (λ a b. subst (λ p. IsMask p (upd (pending k) s true) x) (sym b) (mask-comes (pending k) n s (has.masks k (s / 64) low in_q)))
          (λ ne. mask-stays (pending k) part (get_or words (w * PARTS + part) 0) s (ne e)
          (subst (λ v. IsMask part (pending v) (get_or words (w * PARTS + part) 0)) e (has.masks w part in_w in_p)))
          (ℕ_discrete (w * PARTS + part) (k * PARTS + s / 64)))
          (λ ne. subst (λ y. IsMask part (pending w) y) (sym (get_or-set_other words (k * PARTS + s / 64) (w * PARTS + part) x 0 (λ e. ne (omega arith))))
          (has.masks w part in_w in_p));
    }

-- ---- notices that are taken

pub masks-taken : (d : Shape) (pending : ℕ → ℕ → Bool) (words : List ℕ) (k part : ℕ) → HasMasks d pending words → k < d.workers → part < PARTS
    → HasMasks d (upd pending k (taken part (pending k))) (set words (k * PARTS + part) 0)
masks-taken d pending words k part has low in_ =
    let at : k * PARTS + part < length words = let c = has.count in omega arith in record {
      count = length-set words (k * PARTS + part) 0 ∙ has.count;
      masks = λ w q in_w in_q. upd-cases pending k (taken part (pending k)) w (λ g. IsMask q g (get_or (set words (k * PARTS + part) 0) (w * PARTS + q) 0))
          (λ e. word-cases words k part w q 0 (λ y. IsMask q (taken part (pending k)) y) at in_ in_q
          (λ a b. subst (λ p. IsMask p (taken part (pending k)) 0) (sym b) (mask-taken (pending k) part))
          (λ ne. mask-left (pending k) part q (get_or words (w * PARTS + q) 0) (ne e)
          (subst (λ v. IsMask q (pending v) (get_or words (w * PARTS + q) 0)) e (has.masks w q in_w in_q)))
          (ℕ_discrete (w * PARTS + q) (k * PARTS + part)))
          (λ ne. subst (λ y. IsMask q (pending w) y) (sym (get_or-set_other words (k * PARTS + part) (w * PARTS + q) 0 0 (λ e. ne (omega arith))))
          (has.masks w q in_w in_q));
    }
