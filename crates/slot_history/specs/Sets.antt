-- Functions with one value changed, and sets of workers, which are tests of their numbers.
use Rattle.std.specs.Prelude.{ℕ, zero, suc, ◌+◌, Bool, cond, eqb}

-- f with the value `new` at `at`: all else stays
abbrev pub upd : {A : Type 0} → (ℕ → A) → ℕ → A → ℕ → A
upd f at new k = cond (eqb k at) new (f k)

-- the least number below n that is in the set, or n if there is none
abbrev pub least : ℕ → (ℕ → Bool) → ℕ
least zero f = 0
least (suc n) f = cond (f 0) 0 (suc (least n (λ k. f (suc k))))

-- how many numbers below n are in the set
abbrev pub count_of : ℕ → (ℕ → Bool) → ℕ
count_of zero f = 0
count_of (suc n) f = cond (f n) 1 0 + count_of n f

-- the sum of f over the numbers below n
abbrev pub sum_below : ℕ → (ℕ → ℕ) → ℕ
sum_below zero f = 0
sum_below (suc n) f = f n + sum_below n f
