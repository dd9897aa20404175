-- How often numbers stand in lists: by a key, in lists that are joined, and beside one another.
use Rattle.std.proofs.Common.{◌≡◌, ◌≢◌, ℕ, zero, suc, ◌+◌, ◌<◌, ◌≤◌, Bool, true, false, cond, eqb, List, [], ◌∷◌, length, map}
use Rattle.std.proofs.Common.{Some, slice_get, ⊎_elim, refl, sym, ap, ap₂, ◌∙◌, subst, eqb-true, lt-ltb, arith}
use Rattle.std.specs.Prelude.{All, flat_map, unwrap_or, slice_index_or, IsSortedByKey}
use Rattle.std.specs.List.{sum_by}
use Rattle.std.specs.Ordering.{is_lt, nat_cmp}
use Rattle.std.specs.declared.cmp.Ordering.TheVariants.{Less, Equal, Greater}
use Rattle.std.proofs.lemmas.Bool.{cases_lt, true≢false}
use Rattle.std.proofs.lemmas.List.Elements.{All-nil, All-cons}
use Rattle.std.proofs.lemmas.List.Sums.{sum_by-cons, sum_by-append}
use Rattle.slot_history.specs.Sets.{sum_below}
use Rattle.turn_model.specs.Reports.{Has}
use Rattle.turn_model.specs.Endings.{Beside}
use Rattle.run_laws.proofs.EndingsTell.{times_in}
use Rattle.run_laws.proofs.Pigeons.{RisesFrom, times-here}

-- 1 for an item with this key, else 0
abbrev pub has_key : {A : Type 0} → (A → ℕ) → ℕ → A → ℕ
has_key key n x = cond (eqb (key x) n) 1 0

sum-first : (n : ℕ) (f : ℕ → ℕ) → sum_below (suc n) f ≡ f 0 + sum_below n (λ i. f (suc i))
sum-first zero f = refl
sum-first (suc n) f =
    let r : sum_below (suc n) f ≡ f 0 + sum_below n (λ i. f (suc i)) = sum-first n f in
    let g : f (suc n) + sum_below (suc n) f ≡ f 0 + (f (suc n) + sum_below n (λ i. f (suc i))) = omega (arith, r) in g

module _ {A : Type 0} where
  pub times-map : (key : A → ℕ) (n : ℕ) (xs : List A) → times_in n (map key xs) ≡ sum_by (has_key key n) xs
  times-map key n [] = refl
  times-map key n (x ∷ xs) = ap (λ k. cond (eqb (key x) n) 1 0 + k) (times-map key n xs) ∙ sym (sum_by-cons (has_key key n) x xs)

  -- the sum over a list, item by item
  pub sum-listed : (F : A → ℕ) (told : List A) (G : ℕ → ℕ) → ((i : ℕ) (t : A) → slice_get told i ≡ Some t → F t ≡ G i)
      → sum_by F told ≡ sum_below (length told) G
  sum-listed F [] G each = refl
  sum-listed F (t ∷ told) G each =
      sum_by-cons F t told ∙ ap₂ (λ x y. x + y) (each zero t refl) (sum-listed F told (λ i. G (suc i)) (λ i u got. each (suc i) u got))
      ∙ sym (sum-first (length told) G)

  -- an item that is counted is there
  pub has-counted : (key : A → ℕ) (n : ℕ) (xs : List A) → 0 < sum_by (has_key key n) xs → Has (λ x. key x ≡ n) xs
  has-counted key n [] some = absurd (omega (arith, some))
  has-counted key n (x ∷ xs) some = here (eqb (key x) n) refl (has-counted key n xs) where
    here : (b : Bool) → eqb (key x) n ≡ b → (0 < sum_by (has_key key n) xs → Has (λ y. key y ≡ n) xs) → Has (λ y. key y ≡ n) (x ∷ xs)
    here true is rest = (zero, x, refl, eqb-true (key x) n is)
    here false is rest =
        let e : sum_by (has_key key n) (x ∷ xs) ≡ cond {A = ℕ} (eqb (key x) n) 1 0 + sum_by (has_key key n) xs = sum_by-cons (has_key key n) x xs in
        let z : cond {A = ℕ} (eqb (key x) n) 1 0 ≡ 0 = ap (λ b. cond b 1 0) is in
        let r = rest (omega (arith, some, e, z)) in (suc r.0, r.1, r.2, r.3)

module _ {A B : Type 0} where
  pub sum-flat : (g : B → List A) (F : A → ℕ) (told : List B) → sum_by F (flat_map g told) ≡ sum_by (λ t. sum_by F (g t)) told
  sum-flat g F [] = refl
  sum-flat g F (t ∷ told) =
      sum_by-append F (g t) (flat_map g told) ∙ ap (λ k. sum_by F (g t) + k) (sum-flat g F told) ∙ sym (sum_by-cons (λ t. sum_by F (g t)) t told)

  -- what both lists count, item by item
  pub beside-sum : (P : A → B → Type 0) (F : A → ℕ) (G : B → ℕ) (count : List B → ℕ) → count [] ≡ 0
      → ((y : B) (ys : List B) → count (y ∷ ys) ≡ G y + count ys) → ((x : A) (y : B) → P x y → F x ≡ G y)
      → (xs : List A) (ys : List B) → Beside P xs ys → sum_by F xs ≡ count ys
  beside-sum P F G count none more same [] [] b = sym none
  beside-sum P F G count none more same [] (y ∷ ys) b = absurd b
  beside-sum P F G count none more same (x ∷ xs) [] b = absurd b
  beside-sum P F G count none more same (x ∷ xs) (y ∷ ys) b =
      sum_by-cons F x xs ∙ ap₂ (λ m n. m + n) (same x y b.0) (beside-sum P F G count none more same xs ys b.1) ∙ sym (more y ys)

  -- what holds of each item by the item beside it
  pub beside-all : (P : A → B → Type 0) (R : B → Type 0) (Q : A → Type 0) (Each : List B → Type 0) → ((y : B) (ys : List B) → Each (y ∷ ys) → R y × Each ys)
      → ((x : A) (y : B) → P x y → R y → Q x) → (xs : List A) (ys : List B) → Beside P xs ys → Each ys → All Q xs
  beside-all P R Q Each split is [] [] b each = All-nil Q
  beside-all P R Q Each split is [] (y ∷ ys) b each = absurd b
  beside-all P R Q Each split is (x ∷ xs) [] b each = absurd b
  beside-all P R Q Each split is (x ∷ xs) (y ∷ ys) b each =
      let s = split y ys each in
      All-cons Q x xs (is x y b.0 s.0) (beside-all P R Q Each split is xs ys b.1 s.1)

-- ---- sorted lists

not-less : (x y : ℕ) → is_lt (nat_cmp y x) ≡ false → x ≤ y
not-less x y h = ⊎_elim
    (λ less. absurd (true≢false (sym (ap (λ b. is_lt (cond b Less (cond (eqb y x) Equal Greater))) (lt-ltb y x less)) ∙ h)))
    (λ le. le) (cases_lt y x)

module _ {A : Type 0} (key : A → ℕ) where
  sorted-tail : (x : A) (xs : List A) → IsSortedByKey key nat_cmp (x ∷ xs) → IsSortedByKey key nat_cmp xs
  sorted-tail x xs sorted k d low high =
      let same : suc k + 1 ≡ suc (k + 1) = omega arith in
      subst (λ j. is_lt (nat_cmp (key (slice_index_or (x ∷ xs) j d)) (key (slice_index_or (x ∷ xs) (suc k) d))) ≡ false) same
      (sorted (suc k) d (omega arith) (let h : k + 1 < length xs = high in omega (arith, h)))

  sorted-head : (x y : A) (xs : List A) → IsSortedByKey key nat_cmp (x ∷ y ∷ xs) → key x ≤ key y
  sorted-head x y xs sorted = not-less (key x) (key y)
      (let same : 0 + 1 ≡ suc zero = omega arith in
      subst (λ j. is_lt (nat_cmp (key (slice_index_or (x ∷ y ∷ xs) j x)) (key x)) ≡ false) same (sorted 0 x (omega arith) (omega arith)))

  abbrev first_key : ℕ → List A → ℕ
  first_key k [] = k
  first_key k (x ∷ xs) = key x

  -- and so the keys do not fall
  pub rises-sorted : (k : ℕ) (xs : List A) → k ≤ first_key k xs → IsSortedByKey key nat_cmp xs → RisesFrom k (map key xs)
  rises-sorted k [] from sorted = tt
  rises-sorted k (x ∷ []) from sorted = (from, tt)
  rises-sorted k (x ∷ y ∷ xs) from sorted =
      (from, rises-sorted (key x) (y ∷ xs) (sorted-head x y xs sorted) (sorted-tail x (y ∷ xs) sorted))

-- ---- lists in which no number stands twice

rises-low : (k j y : ℕ) (xs : List ℕ) → RisesFrom k xs → slice_get xs j ≡ Some y → k ≤ y
rises-low k j y [] up got = absurd (cc)
rises-low k zero y (x ∷ xs) up got = let a = up.0 in let e : x ≡ y = ap (λ o. unwrap_or o x) got in omega (arith, a, e)
rises-low k (suc j) y (x ∷ xs) up got = let a = up.0 in let b : x ≤ y = rises-low x j y xs up.1 got in omega (arith, a, b)

times-at : (j y : ℕ) (xs : List ℕ) → slice_get xs j ≡ Some y → 0 < times_in y xs
times-at j y [] got = absurd (cc)
times-at zero y (x ∷ xs) got =
    let e : x ≡ y = ap (λ o. unwrap_or o x) got in
    let one : times_in x (x ∷ xs) ≡ times_in x xs + 1 = times-here x xs in
    subst (λ v. 0 < times_in v (x ∷ xs)) e (omega (arith, one))
times-at (suc j) y (x ∷ xs) got =
    let some : 0 < times_in y xs = times-at j y xs got in
    let r : 0 < cond {A = ℕ} (eqb x y) 1 0 + times_in y xs = omega (arith, some) in r

pub ascends-once : (k : ℕ) (xs : List ℕ) → RisesFrom k xs → ((n : ℕ) → times_in n xs ≤ 1) → (i j x y : ℕ) → i < j → slice_get xs i ≡ Some x
    → slice_get xs j ≡ Some y → x < y
ascends-once k [] up once i j x y less gx gy = absurd (cc)
ascends-once k (z ∷ zs) up once i zero x y less gx gy = absurd (omega (arith, less))
ascends-once k (z ∷ zs) up once zero (suc j) x y less gx gy =
    let e : z ≡ x = ap (λ o. unwrap_or o z) gx in
    let low : z ≤ y = rises-low z j y zs up.1 gy in
    let some : 0 < times_in y zs = times-at j y zs gy in
    let differs : z ≢ y = λ same.
    let o : times_in z (z ∷ zs) ≤ 1 = once z in
    let one : times_in z (z ∷ zs) ≡ times_in z zs + 1 = times-here z zs in
    let two : 0 < times_in z zs = subst (λ v. 0 < times_in v zs) (sym same) some in omega (arith, o, one, two) in
    omega (arith, e, low, differs)
ascends-once k (z ∷ zs) up once (suc i) (suc j) x y less gx gy =
    ascends-once z zs up.1 (λ n. let o : cond {A = ℕ} (eqb z n) 1 0 + times_in n zs ≤ 1 = once n in omega (arith, o)) i j x y (omega (arith, less)) gx gy
