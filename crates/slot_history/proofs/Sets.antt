-- Functions with one value changed, a value that is there, and sets of workers.
use Rattle.std.proofs.Common.{◌≡◌, ◌≢◌, ℕ, zero, suc, ◌+◌, ◌<◌, ◌≤◌, Bool, true, false, cond, eqb}
use Rattle.std.proofs.Common.{not, ◌&&◌, Option, Some, None, refl, sym, ap, ◌∙◌, subst, eq-eqb}
use Rattle.std.proofs.Common.{ne_eqb, arith}
use Rattle.std.specs.Prelude.{unwrap_or, IsSome}
use mathlib.Core.Logic.{dite}
use mathlib.Core.Bool.{true≢false}
use native.Mathlib.Decide.{ℕ_discrete}
use Rattle.std.proofs.lemmas.Bool.{cond_both, eqb-true, eqb-false}
use Rattle.slot_history.specs.Sets.{upd, least, count_of, sum_below}

module _ {A : Type 0} where
  -- a choice by whether two numbers are equal
  pub pick : (j k : ℕ) (x y : A) (P : A → Type 0) → (j ≡ k → P x) → (j ≢ k → P y) → P (cond (eqb j k) x y)
  pick j k x y P same other = cond_both (eqb j k) x y P (λ e. same (eqb-true j k e)) (λ e. other (eqb-false j k e))

  pub upd-same : (f : ℕ → A) (k : ℕ) (x : A) → upd f k x k ≡ x
  upd-same f k x = ap (λ b. cond b x (f k)) (eq-eqb k k refl)

  pub upd-else : (f : ℕ → A) (k : ℕ) (x : A) (j : ℕ) → j ≢ k → upd f k x j ≡ f j
  upd-else f k x j n = ap (λ b. cond b x (f j)) (ne_eqb j k n)

  pub upd-cases : (f : ℕ → A) (k : ℕ) (x : A) (j : ℕ) (P : A → Type 0) → (j ≡ k → P x) → (j ≢ k → P (f j)) → P (upd f k x j)
  upd-cases f k x j P same other = pick j k x (f j) P same other

-- an optional value that is there
pub some-unwrapped : {A : Type 0} (o : Option A) (d : A) → IsSome o → o ≡ Some (unwrap_or o d)
some-unwrapped (Some x) d h = refl
some-unwrapped None d h = absurd (cc)

-- the least number of a set, where one in it is known to be so
pub least-is : (n : ℕ) (f : ℕ → Bool) (k : ℕ) → k < n → f k ≡ true → ((v : ℕ) → v < k → f v ≡ false) → least n f ≡ k
least-is zero f k lt here before = absurd (omega arith)
least-is (suc n) f zero lt here before = ap (λ b. cond b 0 (suc (least n (λ k. f (suc k))))) here
least-is (suc n) f (suc k) lt here before =
    ap (λ b. cond b 0 (suc (least n (λ k. f (suc k))))) (before 0 (omega arith))
    ∙ ap suc (least-is n (λ k. f (suc k)) k (omega arith) here (λ v h. before (suc v) (omega arith)))

-- a set without members below n
pub count-none : (n : ℕ) (f : ℕ → Bool) → ((v : ℕ) → v < n → f v ≡ false) → count_of n f ≡ 0
count-none zero f none = refl
count-none (suc n) f none =
    let e : cond {A = ℕ} (f n) 1 0 ≡ 0 = ap (λ b. cond b 1 0) (none n (omega arith)) in
    let r : count_of n f ≡ 0 = count-none n f (λ v h. none v (omega arith)) in omega arith

pub none-counted : (n : ℕ) (f : ℕ → Bool) → count_of n f ≡ 0 → (v : ℕ) → v < n → f v ≡ false
none-counted zero f zero_members v h = absurd (omega arith)
none-counted (suc n) f zero_members v h = dite (ℕ_discrete v n)
    (λ e. subst (λ u. f u ≡ false) (sym e) (cond_both (f n) 1 0 (λ k. k + count_of n f ≡ 0 → f n ≡ false) (λ t z. absurd (omega arith))
    (λ t z. t) zero_members))
    (λ ne. none-counted n f (let z : cond {A = ℕ} (f n) 1 0 + count_of n f ≡ 0 = zero_members in omega arith) v (omega arith))

pub some-counted : (n : ℕ) (f : ℕ → Bool) → 0 < count_of n f → (v : ℕ) × (v < n) × (f v ≡ true)
some-counted zero f some_member = absurd (omega arith)
some-counted (suc n) f some_member = cond_both (f n) 1 0 (λ k. 0 < k + count_of n f → (v : ℕ) × (v < suc n) × (f v ≡ true))
    (λ t z. (n, omega arith, t))
    (λ t z. let r = some-counted n f (omega arith) in (r.0, let h : r.0 < n = r.1 in omega arith, r.2)) some_member

pub count-same : (n : ℕ) (f g : ℕ → Bool) → ((v : ℕ) → v < n → f v ≡ g v) → count_of n f ≡ count_of n g
count-same zero f g same = refl
count-same (suc n) f g same =
    let e : cond {A = ℕ} (f n) 1 0 ≡ cond {A = ℕ} (g n) 1 0 = ap (λ b. cond b 1 0) (same n (omega arith)) in
    let r : count_of n f ≡ count_of n g = count-same n f g (λ v h. same v (omega arith)) in omega arith

-- one more member
pub count-more : (n : ℕ) (f : ℕ → Bool) (k : ℕ) → k < n → f k ≡ false → count_of n (upd f k true) ≡ count_of n f + 1
count-more zero f k lt out = absurd (omega arith)
count-more (suc n) f k lt out = dite (ℕ_discrete n k)
    (λ e. let a : cond {A = ℕ} (upd f k true n) 1 0 ≡ 1 = ap (λ b. cond b 1 0) (ap (λ j. upd f k true j) e ∙ upd-same f k true) in
    let b : cond {A = ℕ} (f n) 1 0 ≡ 0 = ap (λ b. cond b 1 0) (ap f e ∙ out) in
    let r : count_of n (upd f k true) ≡ count_of n f = count-same n (upd f k true) f (λ v h. upd-else f k true v (omega arith)) in omega arith)
    (λ ne. let a : cond {A = ℕ} (upd f k true n) 1 0 ≡ cond {A = ℕ} (f n) 1 0 = ap (λ b. cond b 1 0) (upd-else f k true n ne) in
    let r : count_of n (upd f k true) ≡ count_of n f + 1 = count-more n f k (omega arith) out in omega arith)

-- a larger set has no fewer members
pub count-grows : (n : ℕ) (f g : ℕ → Bool) → ((v : ℕ) → v < n → f v ≡ true → g v ≡ true) → count_of n f ≤ count_of n g
count-grows zero f g more = omega arith
count-grows (suc n) f g more =
    let r : count_of n f ≤ count_of n g = count-grows n f g (λ v h. more v (omega arith)) in
    cond_both (f n) 1 0 (λ k. k + count_of n f ≤ cond {A = ℕ} (g n) 1 0 + count_of n g)
    (λ t. let e : cond {A = ℕ} (g n) 1 0 ≡ 1 = ap (λ b. cond b 1 0) (more n (omega arith) t) in omega arith)
    (λ t. omega arith)

-- and one more where it has a member that the smaller set lacks
pub count-grows_one : (n : ℕ) (f g : ℕ → Bool) (k : ℕ) → k < n → f k ≡ false → g k ≡ true → ((v : ℕ) → v < n → f v ≡ true → g v ≡ true)
    → count_of n f + 1 ≤ count_of n g
count-grows_one n f g k low out here more =
    let a : count_of n (upd f k true) ≡ count_of n f + 1 = count-more n f k low out in
    let b : count_of n (upd f k true) ≤ count_of n g = count-grows n (upd f k true) g
    (λ v h. upd-cases f k true v (λ b. b ≡ true → g v ≡ true) (λ e t. ap g e ∙ here) (λ ne t. more v h t)) in omega arith

sum-same : (n : ℕ) (f g : ℕ → ℕ) → ((s : ℕ) → s < n → g s ≡ f s) → sum_below n g ≡ sum_below n f
sum-same zero f g same = refl
sum-same (suc n) f g same =
    let a : g n ≡ f n = same n (omega arith) in
    let r : sum_below n g ≡ sum_below n f = sum-same n f g (λ s h. same s (omega arith)) in omega arith

-- a sum of which one term changes, where a term past the end is 0 before
pub sum-change : (n k : ℕ) (f g : ℕ → ℕ) → ((s : ℕ) → s ≢ k → g s ≡ f s) → (n ≤ k → f k ≡ 0) → sum_below n g + f k ≤ sum_below n f + g k
sum-change zero k f g same past = let z : f k ≡ 0 = past (omega arith) in omega arith
sum-change (suc n) k f g same past = dite (ℕ_discrete n k)
    (λ e. let a : sum_below n g ≡ sum_below n f = sum-same n f g (λ s h. same s (omega arith)) in
    let b : g n ≡ g k = ap g e in let c : f n ≡ f k = ap f e in omega arith)
    (λ ne. let a : g n ≡ f n = same n ne in
    let r : sum_below n g + f k ≤ sum_below n f + g k = sum-change n k f g same (λ h. past (omega arith)) in omega arith)

pub sum-zero : (n : ℕ) → sum_below n (λ s. 0) ≡ 0
sum-zero zero = refl
sum-zero (suc n) = let r : sum_below n (λ s. 0) ≡ 0 = sum-zero n in omega arith

pub count-most : (n : ℕ) (f : ℕ → Bool) → count_of n f ≤ n
count-most zero f = omega arith
count-most (suc n) f = let r : count_of n f ≤ n = count-most n f in cond_both (f n) 1 0 (λ k. k + count_of n f ≤ suc n) (λ t. omega arith) (λ t. omega arith)

-- a set that leaves out k has fewer members than there are numbers
pub count-fewer : (n : ℕ) (f : ℕ → Bool) (k : ℕ) → k < n → f k ≡ false → count_of n f < n
count-fewer n f k low out =
    let a : count_of n (upd f k true) ≡ count_of n f + 1 = count-more n f k low out in
    let b : count_of n (upd f k true) ≤ n = count-most n (upd f k true) in omega arith

split-one : (a b : Bool) → (b ≡ true → a ≡ true) → cond {A = ℕ} b 1 0 + cond {A = ℕ} (a && not b) 1 0 ≡ cond {A = ℕ} a 1 0
split-one true true within = refl
split-one true false within = refl
split-one false true within = absurd (true≢false (sym (within refl)))
split-one false false within = refl

-- a set is made of a part and of the rest
pub count-split : (n : ℕ) (f g : ℕ → Bool) → ((v : ℕ) → g v ≡ true → f v ≡ true) → count_of n g + count_of n (λ v. f v && not (g v)) ≡ count_of n f
count-split zero f g within = refl
count-split (suc n) f g within =
    let r : count_of n g + count_of n (λ v. f v && not (g v)) ≡ count_of n f = count-split n f g within in
    let here : cond {A = ℕ} (g n) 1 0 + cond {A = ℕ} (f n && not (g n)) 1 0 ≡ cond {A = ℕ} (f n) 1 0 = split-one (f n) (g n) (within n) in omega arith
