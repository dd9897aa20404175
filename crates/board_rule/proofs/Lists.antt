-- Sums over views, and numbers in lists.
use Rattle.std.proofs.Common.{◌≡◌, ◌≢◌, ℕ, zero, suc, ◌+◌, ◌<◌, ◌≤◌, Bool, true, false, cond, eqb, List}
use Rattle.std.proofs.Common.{[], ◌∷◌, ◌++◌, length, set, get_or, drop, slice_index, refl, sym, ap, eq-eqb, ne_eqb, arith}
use mathlib.Core.Option.{some, some-injective, some-ne-none}
use lib.ListN.{get_elem?}
use Rattle.board_rule.specs.Rule.{total_over}
use Rattle.board_rule.specs.Views.{times}

module _ {V : Type 0} (f : V → ℕ) where
  pub total-set : (vs : List V) (i : ℕ) (v w : V) → get_elem? vs i ≡ some v → total_over f (set vs i w) + f v ≡ total_over f vs + f w
  total-set [] i v w e = absurd (some-ne-none v (sym e))
  total-set (x ∷ xs) zero v w e = let p : f x ≡ f v = ap f (some-injective x v e) in omega arith
  total-set (x ∷ xs) (suc i) v w e = let h = total-set xs i v w e in omega arith

  pub total-append : (vs : List V) (v : V) → total_over f (vs ++ v ∷ []) ≡ total_over f vs + f v
  total-append [] v = omega arith
  total-append (x ∷ xs) v = let h = total-append xs v in omega arith

  pub one-of : (vs : List V) (i : ℕ) (v : V) → get_elem? vs i ≡ some v → f v ≤ total_over f vs
  one-of [] i v e = absurd (some-ne-none v (sym e))
  one-of (x ∷ xs) zero v e = let p : f x ≡ f v = ap f (some-injective x v e) in omega arith
  one-of (x ∷ xs) (suc i) v e = let h = one-of xs i v e in omega arith

  -- two of them
  pub two-of : (vs : List V) (i j : ℕ) (v u : V) → get_elem? vs i ≡ some v → get_elem? vs j ≡ some u → j ≢ i → f v + f u ≤ total_over f vs
  two-of [] i j v u e k n = absurd (some-ne-none v (sym e))
  two-of (x ∷ xs) zero zero v u e k n = absurd (n refl)
  two-of (x ∷ xs) zero (suc j) v u e k n = let p : f x ≡ f v = ap f (some-injective x v e) in let h = one-of xs j u k in omega arith
  two-of (x ∷ xs) (suc i) zero v u e k n = let p : f x ≡ f u = ap f (some-injective x u k) in let h = one-of xs i v e in omega arith
  two-of (x ∷ xs) (suc i) (suc j) v u e k n = let h = two-of xs i j v u e k (λ q. n (ap suc q)) in omega arith

pub times-head : (w : ℕ) (ws : List ℕ) → 0 < times w (w ∷ ws)
times-head w ws = let e : cond {A = ℕ} (eqb w w) 1 0 ≡ 1 = ap (λ b. cond {A = ℕ} b 1 0) (eq-eqb w w refl) in omega arith

pub times-append : (m : ℕ) (xs ys : List ℕ) → times m (xs ++ ys) ≡ times m xs + times m ys
times-append m [] ys = omega arith
times-append m (x ∷ xs) ys = let h = times-append m xs ys in omega arith

pub counts-not : (k w : ℕ) → k ≢ w → cond {A = ℕ} (eqb k w) 1 0 ≡ 0
counts-not k w n = ap (λ (b : Bool). cond {A = ℕ} b 1 0) (ne_eqb k w n)

pub cons-head : {x y : ℕ} {xs ys : List ℕ} → x ∷ xs ≡ y ∷ ys → x ≡ y
cons-head e = ap (λ l. get_or l 0 0) e

pub cons-tail : {x y : ℕ} {xs ys : List ℕ} → x ∷ xs ≡ y ∷ ys → xs ≡ ys
cons-tail e = ap (drop 1) e

pub no-items : {A : Type 0} → (l : List A) → length l ≡ 0 → l ≡ []
no-items [] e = refl
no-items (x ∷ xs) e = absurd (omega arith)

pub headed : (l : List ℕ) (w : ℕ) → 0 < length l → slice_index l 0 ≡ w → (ws : List ℕ) × (l ≡ w ∷ ws)
headed [] w h e = absurd (omega arith)
headed (x ∷ xs) w h e = (xs, ap (λ y. y ∷ xs) e)

pub one-at-most : (b : Bool) → cond {A = ℕ} b 1 0 ≤ 1
one-at-most true = omega arith
one-at-most false = omega arith
