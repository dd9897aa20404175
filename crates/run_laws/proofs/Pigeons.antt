-- Lists of numbers by how often each number stands in them.
use Rattle.std.proofs.Common.{◌≡◌, ◌≢◌, ⊎_elim, ℕ, zero, suc, ◌+◌, ◌*◌, ◌/◌, ◌%◌, ◌<◌, ◌≤◌, cond, eqb, ltb}
use Rattle.std.proofs.Common.{List, [], ◌∷◌, length, Some, slice_get, refl, sym, ap, ◌∙◌, subst, eq-eqb, ne_eqb, lt-ltb, le-ltb, arith}
use Rattle.std.specs.Prelude.{unwrap_or}
use Rattle.std.proofs.lemmas.Bool.{cases_lt}
use Rattle.slot_history.specs.declared.shape.TheConstants.{STAGES}
use Rattle.slot_history.specs.declared.place.Held.{Held}
use Rattle.slot_history.specs.Sets.{sum_below}
use Rattle.slot_history.proofs.Sets.{sum-zero, some-unwrapped}
use Rattle.turn_model.specs.Measure.{is_query}
use Rattle.run_laws.proofs.Least.{sum-equal, sum-turns, sum-turns-below}
use Rattle.run_laws.proofs.Serving.{query-is, query-not}
use Rattle.run_laws.proofs.EndingsTell.{ended_for, AreForSome, times_in}

-- one more of x
pub times-here : (x : ℕ) (xs : List ℕ) → times_in x (x ∷ xs) ≡ times_in x xs + 1
times-here x xs = let e : cond {A = ℕ} (eqb x x) 1 0 ≡ 1 = ap (λ b. cond b 1 0) (eq-eqb x x refl) in
    let r : cond {A = ℕ} (eqb x x) 1 0 + times_in x xs ≡ times_in x xs + 1 = omega (arith, e) in r

pub times-else : (n x : ℕ) (xs : List ℕ) → n ≢ x → times_in n (x ∷ xs) ≡ times_in n xs
times-else n x xs other = let e : cond {A = ℕ} (eqb x n) 1 0 ≡ 0 = ap (λ b. cond b 1 0) (ne_eqb x n (λ s. other (sym s))) in
    let r : cond {A = ℕ} (eqb x n) 1 0 + times_in n xs ≡ times_in n xs = omega (arith, e) in r

-- of holdings that are for queries below n there are as many as of each query together
pub length-ended : (n : ℕ) (hs : List Held) → AreForSome hs → ((q : ℕ) → n ≤ q → ended_for q hs ≡ 0) → length hs ≡ sum_below n (λ q. ended_for q hs)
length-ended n [] some high = sym (sum-zero n)
length-ended n (held ∷ hs) some high =
    let k : ℕ = unwrap_or held.query 0 in
    let is : held.query ≡ Some k = some-unwrapped held.query 0 some.0 in
    let f : ℕ → ℕ = λ q. ended_for q hs in
    let g : ℕ → ℕ = λ q. ended_for q (held ∷ hs) in
    let here : g k ≡ 1 + f k = ap (λ b. cond b 1 0 + f k) (query-is held.query k is) in
    let low : k < n = ⊎_elim (λ l. l) (λ h. let z : g k ≡ 0 = high k h in absurd (omega (arith, z, here))) (cases_lt k n) in
    let turns : sum_below n g + f k ≡ sum_below n f + g k = sum-turns n k f g low
    (λ q other. let e : cond {A = ℕ} (is_query held.query q) 1 0 ≡ 0 =
    ap (λ b. cond b 1 0) (ap (λ o. is_query o q) is ∙ query-not (Some k) q (λ s. other (sym (some-same k q s)))) in
    let r : cond {A = ℕ} (is_query held.query q) 1 0 + f q ≡ f q = omega (arith, e) in r) in
    let rest : length hs ≡ sum_below n f = length-ended n hs some.1
    (λ q h. let z : cond {A = ℕ} (is_query held.query q) 1 0 + f q ≡ 0 = high q h in omega (arith, z)) in
    omega (arith, here, turns, rest)
  where
    some-same : (k q : ℕ) → Some k ≡ Some q → k ≡ q
    some-same k q s = cc

-- of ids of stages below those of their queries
pub length-ids : (n : ℕ) (stages : ℕ → ℕ) (xs : List ℕ) → ((q : ℕ) → q < n → stages q ≤ STAGES)
    → ((id : ℕ) → 0 < times_in id xs → (id / STAGES < n) × (id % STAGES < stages (id / STAGES)))
    → length xs ≡ sum_below n (λ q. sum_below (stages q) (λ k. times_in (STAGES * q + k) xs))
length-ids n stages [] few valid =
    sym (sum-equal n (λ q. 0) (λ q. sum_below (stages q) (λ k. 0)) (λ q low. sum-zero (stages q)) ∙ sum-zero n)
length-ids n stages (x ∷ xs) few valid =
    let here : times_in x (x ∷ xs) ≡ times_in x xs + 1 = times-here x xs in
    let ok = valid x (omega (arith, here)) in
    let q : ℕ = x / STAGES in
    let k : ℕ = x % STAGES in
    let at : STAGES * q + k ≡ x = omega arith in
    let f : ℕ → ℕ = λ r. sum_below (stages r) (λ j. times_in (STAGES * r + j) xs) in
    let g : ℕ → ℕ = λ r. sum_below (stages r) (λ j. times_in (STAGES * r + j) (x ∷ xs)) in
    let inner : sum_below (stages q) (λ j. times_in (STAGES * q + j) (x ∷ xs)) + times_in (STAGES * q + k) xs
    ≡ sum_below (stages q) (λ j. times_in (STAGES * q + j) xs) + times_in (STAGES * q + k) (x ∷ xs) =
    sum-turns (stages q) k (λ j. times_in (STAGES * q + j) xs) (λ j. times_in (STAGES * q + j) (x ∷ xs)) ok.1
    (λ j other. times-else (STAGES * q + j) x xs (λ e. other (apart q j k (e ∙ sym at)))) in
    let outer : sum_below n g + f q ≡ sum_below n f + g q = sum-turns-below n q f g ok.0
    (λ r r_low other. sum-else r (few r r_low) other) in
    let one : times_in (STAGES * q + k) (x ∷ xs) ≡ times_in (STAGES * q + k) xs + 1 = ap (λ i. times_in i (x ∷ xs)) at ∙ here
    ∙ ap (λ i. times_in i xs + 1) (sym at) in
    let rest : length xs ≡ sum_below n f = length-ids n stages xs few (λ id some. valid id (more id some)) in
    omega (arith, inner, outer, one, rest)
  where
    apart : (q j k : ℕ) → STAGES * q + j ≡ STAGES * q + k → j ≡ k
    apart q j k e = omega (arith, e)

    more : (id : ℕ) → 0 < times_in id xs → 0 < times_in id (x ∷ xs)
    more id some = let r : 0 < cond {A = ℕ} (eqb x id) 1 0 + times_in id xs = omega (arith, some) in r

    of-query : (r j : ℕ) → j < STAGES → STAGES * r + j ≡ x → r ≡ x / STAGES
    of-query r j low e = omega (arith, low, e)

    sum-else : (r : ℕ) → stages r ≤ STAGES → r ≢ x / STAGES
        → sum_below (stages r) (λ j. times_in (STAGES * r + j) (x ∷ xs)) ≡ sum_below (stages r) (λ j. times_in (STAGES * r + j) xs)
    sum-else r most other = sum-equal (stages r) (λ j. times_in (STAGES * r + j) xs) (λ j. times_in (STAGES * r + j) (x ∷ xs))
        (λ j low. times-else (STAGES * r + j) x xs (λ e. other (of-query r j (omega (arith, low, most)) e)))

-- ---- lists in order in which each number below n stands once

-- the numbers are k or more, and do not fall
abbrev pub RisesFrom : ℕ → List ℕ → Type 0
RisesFrom k [] = Unit {0}
RisesFrom k (x ∷ xs) = (k ≤ x) × RisesFrom x xs

-- none below is among them
pub none-below : (k q : ℕ) (xs : List ℕ) → q < k → RisesFrom k xs → times_in q xs ≡ 0
none-below k q [] less up = refl
none-below k q (x ∷ xs) less up =
    let a : k ≤ x = up.0 in
    times-else q x xs (λ e. omega (arith, a, less, e)) ∙ none-below x q xs (omega (arith, a, less)) up.1

-- number i is k + i, up to below n
pub record IsCounting (k n : ℕ) (xs : List ℕ) : Type 0 where
  pub many : length xs + k ≡ n
  pub at : (i x : ℕ) → slice_get xs i ≡ Some x → x ≡ k + i

pub counting : (xs : List ℕ) (k n : ℕ) → k ≤ n → RisesFrom k xs → ((q : ℕ) → k ≤ q → times_in q xs ≡ cond (ltb q n) 1 0) → IsCounting k n xs
counting [] k n less up each = ⊎_elim
    (λ more. let z : 0 ≡ cond {A = ℕ} (ltb k n) 1 0 = each k (omega arith) in
    let o : cond {A = ℕ} (ltb k n) 1 0 ≡ 1 = ap (λ b. cond b 1 0) (lt-ltb k n more) in absurd (omega (arith, z, o)))
    (λ all. record { many = omega (arith, all, less); at = λ i x got. absurd (cc) })
    (cases_lt k n)
counting (x ∷ xs) k n less up each =
    let from : k ≤ x = up.0 in
    let some : times_in x (x ∷ xs) ≡ times_in x xs + 1 = times-here x xs in
    let bit : times_in x (x ∷ xs) ≡ cond {A = ℕ} (ltb x n) 1 0 = each x from in
    let low : x < n = ⊎_elim (λ l. l) (λ h. let z : cond {A = ℕ} (ltb x n) 1 0 ≡ 0 = ap (λ b. cond b 1 0) (le-ltb x n h) in
    absurd (omega (arith, some, bit, z))) (cases_lt x n) in
    -- k itself is there, so it is the first
    let first : x ≡ k = ⊎_elim
    (λ above. let z : times_in k (x ∷ xs) ≡ 0 = none-below (k + 1) k (x ∷ xs) (omega arith) (omega (arith, above), up.1) in
    let o : times_in k (x ∷ xs) ≡ cond {A = ℕ} (ltb k n) 1 0 = each k (omega arith) in
    let e : cond {A = ℕ} (ltb k n) 1 0 ≡ 1 = ap (λ b. cond b 1 0) (lt-ltb k n (omega (arith, from, low))) in absurd (omega (arith, z, o, e)))
    (λ same. omega (arith, same, from)) (cases_lt k x) in
    let once : times_in x xs ≡ 0 = let o : cond {A = ℕ} (ltb x n) 1 0 ≡ 1 = ap (λ b. cond b 1 0) (lt-ltb x n low) in omega (arith, some, bit, o) in
    let rest : IsCounting (k + 1) n xs = counting xs (k + 1) n (omega (arith, low, first))
    (rises-next x xs (k + 1) (omega (arith, first)) once up.1)
    (λ q q_from. sym (times-else q x xs (λ e. omega (arith, e, first, q_from))) ∙ each q (omega (arith, q_from))) in
    record {
      many = let m : length xs + (k + 1) ≡ n = rest.many in omega (arith, m);
      at = λ i y got. at-place rest first i y got;
    }
  where
    -- what rises from x without x rises from the next number
    rises-next : (x : ℕ) (ys : List ℕ) (j : ℕ) → j ≡ x + 1 → times_in x ys ≡ 0 → RisesFrom x ys → RisesFrom j ys
    rises-next x [] j is none up = tt
    rises-next x (y ∷ ys) j is none up =
        let a : x ≤ y = up.0 in
        let ne : x ≢ y = λ e. let one : times_in y (y ∷ ys) ≡ times_in y ys + 1 = times-here y ys in
        let z : times_in y (y ∷ ys) ≡ 0 = subst (λ v. times_in v (y ∷ ys) ≡ 0) e none in omega (arith, one, z) in
        (omega (arith, a, ne, is), up.1)

    at-place : IsCounting (k + 1) n xs → x ≡ k → (i y : ℕ) → slice_get (x ∷ xs) i ≡ Some y → y ≡ k + i
    at-place rest first zero y got = let e : x ≡ y = ap (λ o. unwrap_or o 0) got in omega (arith, e, first)
    at-place rest first (suc i) y got = let e : y ≡ k + 1 + i = rest.at i y got in omega (arith, e)
