-- The words at the start.
use Rattle.std.proofs.Common.{◌≡◌, ◌≢◌, ℕ, zero, suc, ◌+◌, ◌<◌, false, cond, ltb, List, length, set}
use Rattle.std.proofs.Common.{get_or, replicate, refl, sym, ap, ◌∙◌, subst, ⊎_elim, lt-ltb, le-ltb}
use Rattle.std.proofs.Common.{lit<, arith, length-set, get_or-set_same, get_or-set_other}
use Rattle.std.proofs.lemmas.Nat.Bits.{bit_at-zero}
use Rattle.std.proofs.lemmas.List.{length-replicate}
use Rattle.std.proofs.lemmas.Bool.{cases_lt}
use mathlib.Core.Logic.{dite}
use native.Mathlib.Decide.{ℕ_discrete}
use Rattle.slot_history.specs.declared.shape.Shape.{Shape}
use Rattle.slot_history.specs.States.{opening}
use Rattle.slot_history.specs.Allowed.{IsMask}
use Rattle.slot_words.specs.declared.address.Address.{Address}
use Rattle.slot_words.specs.declared.address.Address.TheVariants.{Meeting, ArrivalsAt, FinishedAt}
use Rattle.slot_words.specs.declared.address.Address.TheVariants.{StateOf, CursorOf, CounterOf}
use Rattle.slot_words.specs.declared.address.Address.TheVariants.{WorkerOf, ReturnOf, ChangeOf}
use Rattle.slot_words.specs.Addresses.{IsThere, index, count_of_words}
use Rattle.slot_words.specs.Encodings.{zero_count}
use Rattle.slot_words.specs.Words.{Holds, AreFirst, first_word, word_at}
use Rattle.slot_words.specs.Laws.{FirstWordsStand}
use Rattle.slot_words.proofs.Addresses.{index-low, index-one}

-- what a word holds once the counters of the first n slots are at 0
abbrev pub filled : ℕ → Address → ℕ
filled n (CounterOf s) = cond (ltb s n) zero_count 0
filled n _ = 0

pub record AreFilled (d : Shape) (n : ℕ) (words : List ℕ) : Type 0 where
  pub count : length words ≡ count_of_words d
  pub each : (a : Address) → IsThere d a → word_at d words a ≡ filled n a

none-yet : (m k : ℕ) → get_or {A = ℕ} (replicate m 0) k 0 ≡ 0
none-yet zero k = refl
none-yet (suc m) zero = refl
none-yet (suc m) (suc k) = none-yet m k

pub filled-none : (d : Shape) (m : ℕ) (words : List ℕ) → words ≡ replicate m 0 → m ≡ count_of_words d → AreFilled d 0 words
filled-none d m words is count = subst (AreFilled d 0) (sym is) (record { count = length-replicate m 0 ∙ count; each = zeros })
  where
    zeros : (a : Address) → IsThere d a → word_at d (replicate m 0) a ≡ filled 0 a
    zeros (CounterOf s) there = none-yet m (index d (CounterOf s)) ∙ sym (ap (λ b. cond b zero_count 0) (le-ltb s 0 (omega arith)))
    zeros a there = none-yet m (index d a)

-- the next counter
next-below : (s n : ℕ) → s ≢ n → ltb s n ≡ ltb s (n + 1)
next-below s n ne = ⊎_elim
    (λ lt. lt-ltb s n lt ∙ sym (lt-ltb s (n + 1) (omega arith)))
    (λ ge. le-ltb s n ge ∙ sym (le-ltb s (n + 1) (omega arith)))
    (cases_lt s n)

next-filled : (n : ℕ) (a : Address) → a ≢ CounterOf n → filled n a ≡ filled (n + 1) a
next-filled n (CounterOf s) other = ap (λ b. cond b zero_count 0) (dite (ℕ_discrete s n) (λ e. absurd (other (ap CounterOf e))) (λ ne. next-below s n ne))
next-filled n _ other = refl

pub filled-more : (d : Shape) (n at : ℕ) (words : List ℕ) → n < d.slots → at ≡ index d (CounterOf n) → AreFilled d n words
    → AreFilled d (n + 1) (set words at zero_count)
filled-more d n at words low is f =
    let in_words : at < length words = let c = f.count in let l = index-low d (CounterOf n) low in omega arith in record {
      count = length-set words at zero_count ∙ f.count;
      each = λ a there. dite (ℕ_discrete (index d a) at)
          (λ e. let same : a ≡ CounterOf n = index-one d a (CounterOf n) there low (e ∙ is) in
          ap (λ i. get_or (set words at zero_count) i 0) e ∙ get_or-set_same words at zero_count 0 in_words
          ∙ sym (ap (filled (n + 1)) same ∙ ap (λ b. cond b zero_count 0) (lt-ltb n (n + 1) (omega arith))))
          (λ ne. get_or-set_other words at (index d a) zero_count 0 ne ∙ f.each a there ∙ next-filled n a (λ e. ne (ap (index d) e ∙ sym is)));
    }

pub filled-all : (d : Shape) (words : List ℕ) → AreFilled d d.slots words → AreFirst d words
filled-all d words f = record { count = f.count; each = λ a there. f.each a there ∙ all a there }
  where
    all : (a : Address) → IsThere d a → filled d.slots a ≡ first_word a
    all (CounterOf s) there = ap (λ b. cond b zero_count 0) (lt-ltb s d.slots there)
    all _ there = refl

no-mask : (part n : ℕ) → n ≡ 0 → IsMask part (λ s. false) n
no-mask part n z = subst (IsMask part (λ s. false)) (sym z) (record { small = lit< tt; each = λ k low. bit_at-zero k })

pub first-words-stand : FirstWordsStand
first-words-stand d words shape first = record { shape = shape; legal = tt; stands = record { count = first.count; each = at } }
  where
    at : (a : Address) → IsThere d a → Holds d opening a (word_at d words a)
    at (CursorOf s) there = tt
    at (ReturnOf w part) there = no-mask part (word_at d words (ReturnOf w part)) (first.each (ReturnOf w part) there)
    at (ChangeOf w part) there = no-mask part (word_at d words (ChangeOf w part)) (first.each (ChangeOf w part) there)
    at Meeting there = first.each Meeting there
    at ArrivalsAt there = first.each ArrivalsAt there
    at FinishedAt there = first.each FinishedAt there
    at (StateOf s) there = first.each (StateOf s) there
    at (CounterOf s) there = first.each (CounterOf s) there
    at (WorkerOf w) there = first.each (WorkerOf w) there
