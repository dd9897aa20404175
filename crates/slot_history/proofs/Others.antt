-- The others of a worker in ascending order, and which of them were asked.
use Rattle.std.proofs.Common.{◌≡◌, ◌≢◌, ℕ, ◌+◌, ◌<◌, ◌≤◌, ◌⊎◌, Bool, true, false, eqb, ltb, not}
use Rattle.std.proofs.Common.{◌&&◌, refl, sym, ap, ◌∙◌, inl, inr, ne_eqb, ltb-true, ltb-false}
use Rattle.std.proofs.Common.{lt-ltb, ⊎_elim, arith}
use mathlib.Core.Bool.{true≢false}
use Rattle.std.proofs.lemmas.Bool.{cond_both, and_from, and_parts, not-true, eqb-false}
use Rattle.std.proofs.lemmas.Bool.{false_from_ne_true}
use Rattle.std.proofs.lemmas.Bool.Decides.{same_from_decides}
use Rattle.slot_history.specs.declared.shape.Shape.{Shape}
use Rattle.slot_history.specs.Sets.{upd}
use Rattle.slot_history.specs.States.{Ending}
use Rattle.slot_history.specs.Steps.{next_asked}
use Rattle.slot_history.specs.Table.{nth_other, HasAsked}
use Rattle.slot_history.proofs.Sets.{upd-cases, least-is}

pub nth-other-cases : (c n : ℕ) → ((n < c) × (nth_other c n ≡ n)) ⊎ ((c ≤ n) × (nth_other c n ≡ n + 1))
nth-other-cases c n = cond_both (ltb n c) n (n + 1) (λ k. ((n < c) × (k ≡ n)) ⊎ ((c ≤ n) × (k ≡ n + 1))) (λ t. inl (ltb-true n c t, refl))
    (λ t. inr (ltb-false n c t, refl))

-- it is another worker than c
pub nth-other-differs : (c n : ℕ) → nth_other c n ≢ c
nth-other-differs c n e = ⊎_elim (λ r. let a : n < c = r.0 in let b : nth_other c n ≡ n = r.1 in absurd (omega arith))
    (λ r. let a : c ≤ n = r.0 in let b : nth_other c n ≡ n + 1 = r.1 in absurd (omega arith)) (nth-other-cases c n)

pub nth-other-within : (c n k : ℕ) → c < k → n + 1 < k → nth_other c n < k
nth-other-within c n k low more = ⊎_elim (λ r. let a : n < c = r.0 in let b : nth_other c n ≡ n = r.1 in omega arith)
    (λ r. let a : c ≤ n = r.0 in let b : nth_other c n ≡ n + 1 = r.1 in omega arith) (nth-other-cases c n)

-- v is one of the first n others of c
abbrev is_before : ℕ → ℕ → ℕ → Bool
is_before c n v = not (eqb v c) && ltb v (nth_other c n)

before-other : (c n v : ℕ) → is_before c n v ≡ true → v ≢ c
before-other c n v h = eqb-false v c (not-true (eqb v c) (and_parts (not (eqb v c)) (ltb v (nth_other c n)) h).0)

before-below : (c n v : ℕ) → is_before c n v ≡ true → v < nth_other c n
before-below c n v h = ltb-true v (nth_other c n) (and_parts (not (eqb v c)) (ltb v (nth_other c n)) h).1

is-before : (c n v : ℕ) → v ≢ c → v < nth_other c n → is_before c n v ≡ true
is-before c n v other below = and_from (not (eqb v c)) (ltb v (nth_other c n)) (ap not (ne_eqb v c other)) (lt-ltb v (nth_other c n) below)

before-none : (c v : ℕ) → is_before c 0 v ≡ false
before-none c v = false_from_ne_true (is_before c 0 v) (λ h. ⊎_elim
    (λ r. let a : nth_other c 0 ≡ 0 = r.1 in let b : v < nth_other c 0 = before-below c 0 v h in omega arith)
    (λ r. let a : c ≤ 0 = r.0 in let z : nth_other c 0 ≡ 0 + 1 = r.1 in let b : v < nth_other c 0 = before-below c 0 v h in let n : v ≢ c =
    before-other c 0 v h in omega arith)
    (nth-other-cases c 0))

-- in between stands just the worker that is number n
before-step : (c n v : ℕ) → v < nth_other c (n + 1) → v ≢ c → v ≢ nth_other c n → v < nth_other c n
before-step c n v below other differs = ⊎_elim
    (λ r. let a : n < c = r.0 in let z : nth_other c n ≡ n = r.1 in ⊎_elim
    (λ q. let y : nth_other c (n + 1) ≡ n + 1 = q.1 in omega arith)
    (λ q. let y : nth_other c (n + 1) ≡ n + 1 + 1 = q.1 in let x : c ≤ n + 1 = q.0 in omega arith) (nth-other-cases c (n + 1)))
    (λ r. let a : c ≤ n = r.0 in let z : nth_other c n ≡ n + 1 = r.1 in ⊎_elim
    (λ q. let x : n + 1 < c = q.0 in absurd (omega arith))
    (λ q. let y : nth_other c (n + 1) ≡ n + 1 + 1 = q.1 in omega arith) (nth-other-cases c (n + 1)))
    (nth-other-cases c n)

nth-other-grows : (c n : ℕ) → nth_other c n < nth_other c (n + 1)
nth-other-grows c n = ⊎_elim
    (λ r. let a : n < c = r.0 in let z : nth_other c n ≡ n = r.1 in ⊎_elim
    (λ q. let y : nth_other c (n + 1) ≡ n + 1 = q.1 in omega arith)
    (λ q. let y : nth_other c (n + 1) ≡ n + 1 + 1 = q.1 in omega arith) (nth-other-cases c (n + 1)))
    (λ r. let a : c ≤ n = r.0 in let z : nth_other c n ≡ n + 1 = r.1 in ⊎_elim
    (λ q. let x : n + 1 < c = q.0 in absurd (omega arith))
    (λ q. let y : nth_other c (n + 1) ≡ n + 1 + 1 = q.1 in omega arith) (nth-other-cases c (n + 1)))
    (nth-other-cases c n)

-- nobody is asked at first
pub asked-none : (c v : ℕ) → false ≡ (not (eqb v c) && ltb v (nth_other c 0))
asked-none c v = sym (before-none c v)

-- and then one more at a time
pub asked-more : (c n : ℕ) (asked : ℕ → Bool) → ((v : ℕ) → asked v ≡ (not (eqb v c) && ltb v (nth_other c n)))
    → (v : ℕ) → upd asked (nth_other c n) true v ≡ (not (eqb v c) && ltb v (nth_other c (n + 1)))
asked-more c n asked first v = upd-cases asked (nth_other c n) true v (λ b. b ≡ is_before c (n + 1) v)
    (λ e. sym (is-before c (n + 1) v (λ k. nth-other-differs c n (sym e ∙ k)) (let g : nth_other c n < nth_other c (n + 1) = nth-other-grows c n in
    omega arith)))
    (λ differs. first v ∙ same_from_decides {P = is_before c (n + 1) v ≡ true} (is_before c n v) (is_before c (n + 1) v) (
      λ h. is-before c (n + 1) v (before-other c n v h) (let g : nth_other c n < nth_other c (n + 1) = nth-other-grows c n in let b : v < nth_other c n =
          before-below c n v h in omega arith),
      λ h. is-before c n v (before-other c (n + 1) v h) (before-step c n v (before-below c (n + 1) v h) (before-other c (n + 1) v h) differs),
    ) (λ h. h, λ h. h))

-- the next one was not asked before
pub next-unasked : (d : Shape) (e : Ending) (n m : ℕ) → HasAsked d e n m → e.asked (nth_other e.coordinator n) ≡ false
next-unasked d e n m h = let c : ℕ = e.coordinator in let u : ℕ = nth_other c n in
    h.first u ∙ false_from_ne_true (is_before c n u) (λ k. let b : u < u = before-below c n u k in omega arith)

-- who is asked next
pub next-is : (d : Shape) (e : Ending) (n m : ℕ) → HasAsked d e n m → e.coordinator < d.workers → n + 1 < d.workers → next_asked d e ≡ nth_other e.coordinator n
next-is d e n m h low more =
    let c : ℕ = e.coordinator in
    let u : ℕ = nth_other c n in
    let out : e.asked u ≡ false = next-unasked d e n m h in
    least-is d.workers (λ v. not (e.asked v) && not (eqb v c)) u (nth-other-within c n d.workers low more)
    (and_from (not (e.asked u)) (not (eqb u c)) (ap not out) (ap not (ne_eqb u c (nth-other-differs c n))))
    (λ v below. false_from_ne_true (not (e.asked v) && not (eqb v c)) (λ k.
    let both = and_parts (not (e.asked v)) (not (eqb v c)) k in
    let other : v ≢ c = eqb-false v c (not-true (eqb v c) both.1) in
    true≢false (sym (is-before c n v other below) ∙ sym (h.first v) ∙ not-true (e.asked v) both.0)))

-- once all but the coordinator are counted, each was asked
pub all-asked : (d : Shape) (e : Ending) (n m : ℕ) → HasAsked d e n m → e.coordinator < d.workers → n + 1 ≡ d.workers → (v : ℕ) → v < d.workers
    → v ≢ e.coordinator → e.asked v ≡ true
all-asked d e n m h lead full v low other = h.first v ∙ is-before e.coordinator n v other
    (⊎_elim (λ r. let c : ℕ = e.coordinator in let a : n < c = r.0 in absurd (omega arith))
    (λ r. let z : nth_other e.coordinator n ≡ n + 1 = r.1 in omega arith) (nth-other-cases e.coordinator n))
