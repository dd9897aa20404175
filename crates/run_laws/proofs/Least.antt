-- The least number of a set, and sums of which one term changes.
use Rattle.std.proofs.Common.{sym, subst, ◌≡◌, ◌≢◌, ℕ, zero, suc, ◌+◌, ◌*◌, ◌<◌, ◌≤◌, Bool, true, false, cond, refl, ap, ap₂, arith}
use Rattle.std.proofs.lemmas.Bool.{cond_both}
use mathlib.Core.Logic.{dite}
use native.Mathlib.Decide.{ℕ_discrete}
use Rattle.slot_history.specs.Sets.{least, sum_below}

pub least-same : (n : ℕ) (f g : ℕ → Bool) → ((s : ℕ) → g s ≡ f s) → least n g ≡ least n f
least-same zero f g same = refl
least-same (suc n) f g same =
    ap₂ (λ b k. cond b 0 (suc k)) (same 0) (least-same n (λ k. f (suc k)) (λ k. g (suc k)) (λ s. same (suc s)))

-- the least number that is in the set is in the set
pub least-holds : (n : ℕ) (f : ℕ → Bool) → least n f < n → f (least n f) ≡ true
least-holds zero f low = absurd (omega (arith, low))
least-holds (suc n) f low = cond_both (f 0) 0 (suc (least n (λ k. f (suc k)))) (λ j. j < suc n → f j ≡ true)
    (λ t below. t)
    (λ t below. least-holds n (λ k. f (suc k)) (omega (arith, below))) low

-- if none is in the set, it is n
pub least-none : (n : ℕ) (f : ℕ → Bool) → ((s : ℕ) → s < n → f s ≡ false) → least n f ≡ n
least-none zero f none = refl
least-none (suc n) f none =
    ap₂ (λ b k. cond b 0 (suc k)) (none 0 (omega arith)) (least-none n (λ k. f (suc k)) (λ s low. none (suc s) (omega (arith, low))))

pub sum-equal : (n : ℕ) (f g : ℕ → ℕ) → ((s : ℕ) → s < n → g s ≡ f s) → sum_below n g ≡ sum_below n f
sum-equal zero f g same = refl
sum-equal (suc n) f g same = ap₂ (λ a b. a + b) (same n (omega arith)) (sum-equal n f g (λ s low. same s (omega (arith, low))))

-- a sum of which one term, below n, changes
pub sum-turns-below : (n k : ℕ) (f g : ℕ → ℕ) → k < n → ((s : ℕ) → s < n → s ≢ k → g s ≡ f s) → sum_below n g + f k ≡ sum_below n f + g k
sum-turns-below zero k f g low same = absurd (omega (arith, low))
sum-turns-below (suc n) k f g low same = dite (ℕ_discrete n k)
    (λ e. let a : sum_below n g ≡ sum_below n f = sum-equal n f g (λ s below. same s (omega (arith, below)) (omega (arith, below, e))) in
    let b : g n ≡ g k = ap g e in let c : f n ≡ f k = ap f e in omega (arith, a, b, c))
    (λ ne. let a : g n ≡ f n = same n (omega arith) ne in
    let r : sum_below n g + f k ≡ sum_below n f + g k =
    sum-turns-below n k f g (omega (arith, low, ne)) (λ s below. same s (omega (arith, below))) in omega (arith, a, r))

pub sum-turns : (n k : ℕ) (f g : ℕ → ℕ) → k < n → ((s : ℕ) → s ≢ k → g s ≡ f s) → sum_below n g + f k ≡ sum_below n f + g k
sum-turns n k f g low same = sum-turns-below n k f g low (λ s below. same s)

pub sum-most : (n : ℕ) (f g : ℕ → ℕ) → ((s : ℕ) → s < n → f s ≤ g s) → sum_below n f ≤ sum_below n g
sum-most zero f g less = omega arith
sum-most (suc n) f g less =
    let a : f n ≤ g n = less n (omega arith) in
    let r : sum_below n f ≤ sum_below n g = sum-most n f g (λ s low. less s (omega (arith, low))) in omega (arith, a, r)

pub sum-longer : (m n : ℕ) (f : ℕ → ℕ) → m ≤ n → sum_below m f ≤ sum_below n f
sum-longer m zero f within = let e : m ≡ 0 = omega (arith, within) in let r : sum_below m f ≡ sum_below 0 f = ap (λ k. sum_below k f) e in omega (arith, r)
sum-longer m (suc n) f within = dite (ℕ_discrete m (suc n))
    (λ e. let r : sum_below m f ≡ sum_below (suc n) f = ap (λ k. sum_below k f) e in omega (arith, r))
    (λ ne. let r : sum_below m f ≤ sum_below n f = sum-longer m n f (omega (arith, within, ne)) in omega (arith, r))

-- a sum whose terms are at most c
pub sum-bounded : (n : ℕ) (f : ℕ → ℕ) (c : ℕ) → ((s : ℕ) → s < n → f s ≤ c) → sum_below n f ≤ n * c
sum-bounded zero f c most = omega arith
sum-bounded (suc n) f c most =
    let here : f n ≤ c = most n (omega arith) in
    let r : sum_below n f ≤ n * c = sum-bounded n f c (λ s low. most s (omega (arith, low))) in
    let e : suc n * c ≡ c + n * c = grind arith in
    omega (arith, here, r, e)

-- a sum of which one term is less, and no term more
pub sum-less : (n k : ℕ) (f g : ℕ → ℕ) → k < n → f k < g k → ((s : ℕ) → s < n → f s ≤ g s) → sum_below n f < sum_below n g
sum-less zero k f g low less most = absurd (omega (arith, low))
sum-less (suc n) k f g low less most = dite (ℕ_discrete n k)
    (λ e. let a : sum_below n f ≤ sum_below n g = sum-most n f g (λ s below. most s (omega (arith, below))) in
    let b : f n < g n = subst (λ j. f j < g j) (sym e) less in omega (arith, a, b))
    (λ ne. let a : f n ≤ g n = most n (omega arith) in
    let r : sum_below n f < sum_below n g = sum-less n k f g (omega (arith, low, ne)) less (λ s below. most s (omega (arith, below))) in omega (arith, a, r))

-- a term is no more than the sum
pub sum-member : (n k : ℕ) (f : ℕ → ℕ) → k < n → f k ≤ sum_below n f
sum-member zero k f low = absurd (omega (arith, low))
sum-member (suc n) k f low = dite (ℕ_discrete k n)
    (λ e. let a : f k ≡ f n = ap f e in omega (arith, a))
    (λ ne. let r : f k ≤ sum_below n f = sum-member n k f (omega (arith, low, ne)) in omega (arith, r))
