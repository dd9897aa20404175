-- Shares with one range more.
use Rattle.std.proofs.Common.{◌≡◌, ℕ, zero, suc, ◌+◌, ◌<◌, ◌≤◌, true, false, ltb, List, [], ◌∷◌, ◌⊎◌, inl, inr, Some, refl, sym, ap, ◌∙◌, subst}
use Rattle.std.proofs.Common.{length, ltb-true, slice_index_or, slice_get, slice_set, lt-ltb, arith}
use Rattle.std.specs.Prelude.{insert}
use Rattle.std.proofs.lemmas.Bool.{cases_lt, false≢true}
use Rattle.std.proofs.lemmas.List.Edits.{length-insert}
use Rattle.std.proofs.lemmas.Option.{slice_get-get_or, slice_get_within, get_or_from_slice_get}
use Rattle.std.specs.List.Sorted.{IsNonDecreasingBy, IsPartitionPoint, IsPartitionedBy}
use Rattle.std.proofs.lemmas.List.Sorted.{IsPartitionedBy-ltb}
use Rattle.report_text.specs.declared.report.Share.{Share}
use Rattle.turn_model.specs.Shares.{Worked}
use Rattle.turn_model.specs.Shares.{no_share, with_range, counted, AscendWithin}
use Rattle.turn_model.proofs.Counting.{ascending-order, count-before, count-here, count-past, counted-ascends, some-is}

module _ (range : Worked) where
  -- the query has a share
  pub counted-old : (xs : List Share) (k : ℕ) (s : Share) → slice_get xs k ≡ Some s → s.query ≡ range.query
      → ((i : ℕ) (x : Share) → i < k → slice_get xs i ≡ Some x → x.query < range.query) → slice_set xs k (with_range range s) ≡ counted range xs
  counted-old [] k s got same below = absurd (cc)
  counted-old (x ∷ xs) zero s got same below =
      let e = some-is x s got in
      ap (λ (y : Share). with_range range y ∷ xs) (sym e) ∙ sym (count-here range x xs (ap (λ (y : Share). y.query) e ∙ same))
  counted-old (x ∷ xs) (suc k) s got same below =
      ap (λ l. x ∷ l) (counted-old xs k s got same (λ i y lt g. below (suc i) y (omega (arith, lt)) g))
      ∙ sym (count-past range x xs (below zero x (omega arith) refl))

  -- it has none yet
  pub counted-new : (xs : List Share) (k : ℕ) → k ≤ length xs → ((s : Share) → slice_get xs k ≡ Some s → range.query < s.query)
      → ((i : ℕ) (x : Share) → i < k → slice_get xs i ≡ Some x → x.query < range.query)
      → insert xs k (with_range range (no_share range)) ≡ counted range xs
  counted-new [] zero most past below = refl
  counted-new [] (suc k) most past below = absurd (omega (arith, most))
  counted-new (x ∷ xs) zero most past below = sym (count-before range x xs (past x refl))
  counted-new (x ∷ xs) (suc k) most past below =
      ap (λ l. x ∷ l) (counted-new xs k (omega (arith, most)) past (λ i y lt g. below (suc i) y (omega (arith, lt)) g))
      ∙ sym (count-past range x xs (below zero x (omega arith) refl))

-- shares of so many queries are no more
pub ascending-few : (from to : ℕ) (xs : List Share) → from ≤ to → AscendWithin from to xs → length xs + from ≤ to
ascending-few from to [] low up = omega (arith, low)
ascending-few from to (x ∷ xs) low up =
    let a = up.0 in
    let b = up.1 in
    let rest = ascending-few (x.query + 1) to xs (omega (arith, b)) up.2 in
    omega (arith, a, b, rest)

-- queries do not fall along the shares
pub not-falling : (from to : ℕ) (xs : List Share) → AscendWithin from to xs → IsNonDecreasingBy (λ (s : Share). s.query) xs
not-falling from to xs up i j d le lt = at (cases_lt i j) where
  at : (i < j) ⊎ (j ≤ i) → (slice_index_or xs i d).query ≤ (slice_index_or xs j d).query
  at (inl under) =
      let e = ascending-order from to xs i j (slice_index_or xs i d) (slice_index_or xs j d) up under
      (slice_get-get_or xs i d (omega (arith, under, lt))) (slice_get-get_or xs j d lt) in
      omega (arith, e)
  at (inr over) =
      let same : i ≡ j = omega (arith, le, over) in
      let e : (slice_index_or xs i d).query ≡ (slice_index_or xs j d).query = ap (λ k. (slice_index_or xs k d).query) same in
      omega (arith, e)

-- the shares below a query come first, and there it is
abbrev pub PartsAt : List Share → ℕ → ℕ → Type 0
PartsAt xs query at = IsPartitionPoint (λ (s : Share). ltb s.query query ≡ true) (λ (s : Share). ltb s.query query ≡ false) xs at

pub parted : (queries query : ℕ) (xs ys : List Share) → ys ≡ xs → AscendWithin 0 queries xs → IsPartitionedBy (λ (s : Share). ltb s.query query) ys
parted queries query xs ys same up =
    subst (IsPartitionedBy (λ (s : Share). ltb s.query query)) (sym same) (IsPartitionedBy-ltb (λ (s : Share). s.query) xs query (not-falling 0 queries xs up))

-- where a range of this query is to be counted
module _ (xs : List Share) (query at : ℕ) (parts : PartsAt xs query at) where
  pub below-at : (i : ℕ) (x : Share) → i < at → slice_get xs i ≡ Some x → x.query < query
  below-at i x lt got =
      ltb-true x.query query (subst (λ (s : Share). ltb s.query query ≡ true) (get_or_from_slice_get xs i x x got) (parts.0 i x (omega arith) lt))

  pub from-at : (i : ℕ) (x : Share) → at ≤ i → slice_get xs i ≡ Some x → query ≤ x.query
  from-at i x le got = by (cases_lt x.query query) where
    low : i < length xs
    low = slice_get_within xs i x got

    is : ltb x.query query ≡ false
    is = subst (λ (s : Share). ltb s.query query ≡ false) (get_or_from_slice_get xs i x x got) (parts.1 i x le low)

    by : (x.query < query) ⊎ (query ≤ x.query) → query ≤ x.query
    by (inl under) = absurd (false≢true (sym is ∙ lt-ltb x.query query under))
    by (inr over) = over

-- there is room for a share of one query more
pub inserted-few : (range : Worked) (queries : ℕ) (xs : List Share) (at : ℕ) → range.query < queries → AscendWithin 0 queries xs
    → insert xs at (with_range range (no_share range)) ≡ counted range xs → at ≤ length xs → length xs + 1 ≤ queries
inserted-few range queries xs at low up is most =
    let few = ascending-few 0 queries (counted range xs) (omega arith) (counted-ascends range 0 queries xs (omega arith) low up) in
    let len : length (insert xs at (with_range range (no_share range))) ≡ length xs + 1 = length-insert xs at (with_range range (no_share range)) most in
    let same = ap length is in
    omega (arith, few, len, same)
