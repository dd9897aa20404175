-- Shares with one range more.
use Rattle.std.proofs.Common.{◌≡◌, ℕ, zero, suc, ◌+◌, ◌<◌, ◌≤◌, cond, eqb, List, [], ◌∷◌, ◌⊎◌, inl, inr, Some, sym, ap, ◌∙◌, subst}
use Rattle.std.proofs.Common.{slice_get, unwrap_or, lt-ltb, le-ltb, eq-eqb, ne_eqb, arith}
use Rattle.std.proofs.lemmas.Bool.{cases_order}
use Rattle.report_text.specs.declared.report.Share.{Share}
use Rattle.turn_model.specs.Shares.{Worked, no_share, with_range, counted, AscendWithin}

pub some-is : (x y : Share) → Some x ≡ Some y → x ≡ y
some-is x y e = ap (λ o. unwrap_or o x) e

module _ (range : Worked) where
  pub count-past : (x : Share) (xs : List Share) → x.query < range.query → counted range (x ∷ xs) ≡ x ∷ counted range xs
  count-past x xs lt = ap (λ b. cond b (x ∷ counted range xs)
      (cond (eqb x.query range.query) (with_range range x ∷ xs) (with_range range (no_share range) ∷ x ∷ xs))) (lt-ltb x.query range.query lt)

  pub count-here : (x : Share) (xs : List Share) → x.query ≡ range.query → counted range (x ∷ xs) ≡ with_range range x ∷ xs
  count-here x xs is =
      ap (λ b. cond b (x ∷ counted range xs) (cond (eqb x.query range.query) (with_range range x ∷ xs) (with_range range (no_share range) ∷ x ∷ xs)))
      (le-ltb x.query range.query (omega (arith, is)))
      ∙ ap (λ b. cond b (with_range range x ∷ xs) (with_range range (no_share range) ∷ x ∷ xs)) (eq-eqb x.query range.query is)

  pub count-before : (x : Share) (xs : List Share) → range.query < x.query → counted range (x ∷ xs) ≡ with_range range (no_share range) ∷ x ∷ xs
  count-before x xs lt =
      ap (λ b. cond b (x ∷ counted range xs) (cond (eqb x.query range.query) (with_range range x ∷ xs) (with_range range (no_share range) ∷ x ∷ xs)))
      (le-ltb x.query range.query (omega (arith, lt)))
      ∙ ap (λ b. cond b (with_range range x ∷ xs) (with_range range (no_share range) ∷ x ∷ xs)) (ne_eqb x.query range.query (λ e. omega (arith, e, lt)))

  -- shares still ascend
  pub counted-ascends : (from to : ℕ) (xs : List Share) → from ≤ range.query → range.query < to → AscendWithin from to xs
      → AscendWithin from to (counted range xs)
  counted-ascends from to [] low high up = (low, high, tt)
  counted-ascends from to (x ∷ xs) low high up =
      at (cases_order x.query range.query) (λ lt. counted-ascends (x.query + 1) to xs (omega (arith, lt)) high up.2) where
        at : (x.query ≡ range.query) ⊎ ((x.query < range.query) ⊎ (range.query < x.query))
            → (x.query < range.query → AscendWithin (x.query + 1) to (counted range xs)) → AscendWithin from to (counted range (x ∷ xs))
        at (inl e) rest = subst (AscendWithin from to) (sym (count-here x xs e)) (up.0, up.1, up.2)
        at (inr (inl lt)) rest = subst (AscendWithin from to) (sym (count-past x xs lt)) (up.0, up.1, rest lt)
        at (inr (inr lt)) rest = subst (AscendWithin from to) (sym (count-before x xs lt)) (low, high, (omega (arith, lt), up.1, up.2))

-- an earlier share is of a lower query
pub ascending-at : (from to : ℕ) (xs : List Share) (i : ℕ) (x : Share) → AscendWithin from to xs → slice_get xs i ≡ Some x → from ≤ x.query
ascending-at from to [] i x up got = absurd (cc)
ascending-at from to (y ∷ ys) zero x up got = let a = up.0 in subst (λ (s : Share). from ≤ s.query) (some-is y x got) a
ascending-at from to (y ∷ ys) (suc i) x up got =
    let a = up.0 in
    let b = ascending-at (y.query + 1) to ys i x up.2 got in
    omega (arith, a, b)

pub ascending-order : (from to : ℕ) (xs : List Share) (i j : ℕ) (x y : Share) → AscendWithin from to xs → i < j → slice_get xs i ≡ Some x
    → slice_get xs j ≡ Some y → x.query < y.query
ascending-order from to [] i j x y up lt gx gy = absurd (cc)
ascending-order from to (s ∷ ss) i zero x y up lt gx gy = absurd (omega (arith, lt))
ascending-order from to (s ∷ ss) zero (suc j) x y up lt gx gy =
    let e = ap (λ (z : Share). z.query) (some-is s x gx) in
    let b = ascending-at (s.query + 1) to ss j y up.2 gy in
    omega (arith, e, b)
ascending-order from to (s ∷ ss) (suc i) (suc j) x y up lt gx gy = ascending-order (s.query + 1) to ss i j x y up.2 (omega (arith, lt)) gx gy
