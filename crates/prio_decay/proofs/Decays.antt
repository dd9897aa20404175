use Rattle.std.proofs.Common.{◌≡◌, ℕ, ◌+◌, ◌-◌, ◌*◌, ◌/◌, ◌^◌, ◌<◌, ◌≤◌, suc, zero, max, min, List, [], ◌∷◌, sum, fold, refl, sym, ap, subst, ◌∙◌}
use Rattle.std.proofs.Common.{⊎_elim, add-zero, arith}
use Rattle.std.proofs.Math.Nat.{div-lt_iff_lt-mul, mul-lt-mul_of_pos_left}
use Rattle.std.proofs.lemmas.Bool.Decides.{nat_tests}
use Rattle.std.proofs.lemmas.Bool.{cases_lt}
use Rattle.std.proofs.lemmas.List.Sums.{sum_by-cons}
use Rattle.prio_decay.specs.declared.Params.{Params}
use Rattle.prio_decay.specs.Priority.{IsUsable, Spending, HasSpent, after_spending, priority_after, priority_of}

-- the priority is held at its start
pub priority_after-held : (p : Params) (n : ℕ) → n ≤ p.hold → priority_after p n ≡ p.start
unfolding priority_after
priority_after-held p zero h = refl
priority_after-held p (suc n) h = grind (arith, nat_tests)

-- and then each quantum takes a fraction of it
pub priority_after-next : (p : Params) (n : ℕ) → p.hold ≤ n → priority_after p (n + 1) ≡ max 100 (priority_after p n * p.num / p.den)
unfolding priority_after
priority_after-next p n h = grind (arith, nat_tests)

-- a fraction below one leaves less
pub fraction_below : (x num den : ℕ) → 0 < x → num < den → x * num / den < x
fraction_below x num den pos below = (div-lt_iff_lt-mul (omega arith)).1 (mul-lt-mul_of_pos_left below pos)

-- a priority is 100 to 10,000
pub priority_after-bounds : (p : Params) → IsUsable p → (n : ℕ) → (100 ≤ priority_after p n) × (priority_after p n ≤ 10000)
unfolding priority_after
priority_after-bounds p u zero = (u.least, u.most)
priority_after-bounds p u (suc n) =
    let before = priority_after-bounds p u n in
    let falls = fraction_below (priority_after p n) p.num p.den (omega arith) u.decays in
    grind (arith, nat_tests)

-- each quantum takes at least 1 off, down to 100
pub priority_after-falls : (p : Params) → IsUsable p → (k : ℕ) → priority_after p (p.hold + k) ≤ max 100 (p.start - k)
priority_after-falls p u zero = omega (arith, priority_after-held p (p.hold + 0) (omega arith))
priority_after-falls p u (suc k) =
    let before = priority_after-falls p u k in
    let bounds = priority_after-bounds p u (p.hold + k) in
    let falls = fraction_below (priority_after p (p.hold + k)) p.num p.den (omega arith) u.decays in
    let step : priority_after p (p.hold + suc k) ≡ max 100 (priority_after p (p.hold + k) * p.num / p.den) = ap (priority_after p) (omega arith) ∙
    priority_after-next p (p.hold + k) (omega arith) in
    omega (arith, before, bounds, falls, step)

-- so it is 100 from 10,000 quanta after the hold on
pub priority_after-late : (p : Params) → IsUsable p → (n : ℕ) → p.hold + 10000 ≤ n → priority_after p n ≡ 100
priority_after-late p u n h =
    let falls = priority_after-falls p u (n - p.hold) in
    let bounds = priority_after-bounds p u n in
    let same : priority_after p (p.hold + (n - p.hold)) ≡ priority_after p n = ap (priority_after p) (omega arith) in
    omega (arith, u.most)

-- a quantum never raises the priority
one_more : (p : Params) → IsUsable p → (n : ℕ) → priority_after p (n + 1) ≤ priority_after p n
one_more p u n = ⊎_elim held decayed (cases_lt n p.hold)
  where
    held : n < p.hold → priority_after p (n + 1) ≤ priority_after p n
    held h = omega (arith, priority_after-held p n (omega arith), priority_after-held p (n + 1) (omega arith))

    decayed : p.hold ≤ n → priority_after p (n + 1) ≤ priority_after p n
    decayed h =
        let bounds = priority_after-bounds p u n in
        omega (arith, priority_after-next p n h, fraction_below (priority_after p n) p.num p.den (omega arith) u.decays)

-- a priority never rises
pub priority_after-no_rise : (p : Params) → IsUsable p → (n k : ℕ) → priority_after p (n + k) ≤ priority_after p n
priority_after-no_rise p u n zero = omega (arith, ap (priority_after p) (add-zero n))
priority_after-no_rise p u n (suc k) = omega (arith, priority_after-no_rise p u n k, one_more p u (n + k), same_priority)
  where
    same_priority : priority_after p (n + suc k) ≡ priority_after p (n + k + 1)
    same_priority = ap (priority_after p) (omega arith)

-- up to the hold the quanta change nothing
pub priority_after-clamped : (p : Params) (from to first : ℕ) → from ≤ to → first ≡ max from (min p.hold to) → priority_after p first ≡ priority_after p from
priority_after-clamped p from to first order here = ⊎_elim held past (cases_lt from p.hold)
  where
    held : from < p.hold → priority_after p first ≡ priority_after p from
    held below = priority_after-held p first (omega arith) ∙ sym (priority_after-held p from (omega arith))

    past : p.hold ≤ from → priority_after p first ≡ priority_after p from
    past above = ap (priority_after p) (omega arith)

-- once it is 100 the priority stays
pub priority_after-stays : (p : Params) → IsUsable p → (n to : ℕ) → n ≤ to → priority_after p n ≡ 100 → priority_after p to ≡ 100
priority_after-stays p u n to h least =
    let falls = priority_after-no_rise p u n (to - n) in
    let bounds = priority_after-bounds p u to in
    let same : priority_after p (n + (to - n)) ≡ priority_after p to = ap (priority_after p) (omega arith) in
    omega arith

-- the count of nanoseconds stands still only where the priority is 100
pub priority_of-spent : (d : Spending) (total : ℕ) → IsUsable d.params → HasSpent d total → priority_of d ≡ priority_after d.params (total / 2000000)
priority_of-spent d total u h = ⊎_elim at_the_end in_full (cases_lt (2 ^ 64 - 1) total)
  where
    in_full : total ≤ 2 ^ 64 - 1 → priority_of d ≡ priority_after d.params (total / 2000000)
    in_full small = let same : d.spent ≡ total = omega arith in ap (λ t. priority_after d.params (t / 2000000)) same

    at_the_end : 2 ^ 64 - 1 < total → priority_of d ≡ priority_after d.params (total / 2000000)
    at_the_end large = priority_after-late d.params u (d.spent / 2000000) (omega (arith, u.ends)) ∙ sym
        (priority_after-late d.params u (total / 2000000) (omega (arith, u.ends)))

-- the times spent one after another count as their sum
pub HasSpent-fold : (times : List ℕ) (d : Spending) (total : ℕ) → HasSpent d total → HasSpent (fold after_spending d times) (total + sum times)
HasSpent-fold [] d total h = omega arith
HasSpent-fold (x ∷ times) d total h = subst (λ t. HasSpent (fold after_spending d (x ∷ times)) t) (omega (arith, sum_by-cons (λ t. t) x times))
    (HasSpent-fold times (after_spending d x) (total + x) (omega arith))

-- and leave the parameters
pub params-fold : (times : List ℕ) (d : Spending) → (fold after_spending d times).params ≡ d.params
params-fold [] d = refl
params-fold (x ∷ times) d = params-fold times (after_spending d x)
