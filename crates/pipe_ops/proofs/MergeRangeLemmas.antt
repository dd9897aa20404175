-- Groups that are merged part by part.
use Rattle.std.proofs.Common.{◌≡◌, ℕ, zero, suc, ◌+◌, ◌<◌, ◌≤◌, List, [], ◌∷◌, ◌++◌, ◌&&◌, ◌||◌, All, Bool, true, false, cond, flat_map, get_or, length}
use Rattle.std.proofs.Common.{map, take, refl, sym, ap, ◌∙◌, inl, inr, append-nil, append_assoc, arith}
use Rattle.std.specs.List.{AllZip}
use Rattle.std.proofs.lemmas.Bool.{cases_Bool, cases_lt, eq-eqb, eqb-true, le-leb, le-ltb, lt-leb, lt-ltb, ltb-false, ltb-true, true≢false}
use Rattle.std.proofs.Math.Bool.{and-false, or-false, or-true}
use Rattle.std.proofs.Math.Dec.{eqb, leb, ltb}
use Rattle.std.proofs.lemmas.List.{length-append, take_more}
use Rattle.std.proofs.lemmas.List.Concat.{flat_map-append}
use Rattle.std.proofs.lemmas.List.Elements.{All-append, All-filter, All-nil, filter-append}
use Rattle.plan_ast.specs.Answer.{aggregate}
use Rattle.plan_ast.specs.Folds.{Tuples, range_of}
use Rattle.build_sides.specs.FoldedRows.{FoldedRow, rows_with, value_in}
use Rattle.build_sides.specs.GroupSides.{FitsRow, Folds, column_of, key_part, rows_in}
use Rattle.build_sides.specs.GroupTotals.{GroupTotals}
use Rattle.build_sides.specs.Numbered.{same_key}
use Rattle.build_sides.specs.declared.key_table.Key.{Key}
use Rattle.build_sides.proofs.Items.{same_key_tells}
use Rattle.pipe_ops.specs.Merging.{rows_among}
use Rattle.pipe_ops.proofs.SideJoinLemmas.{few_matches}

-- ---- lists in step

pub zip_length : {A B : Type 0} (R : A → B → Type 0) (xs : List A) (ys : List B) → AllZip R xs ys → length xs ≡ length ys
zip_length R [] [] h = refl
zip_length R [] (y ∷ ys) h = absurd h
zip_length R (x ∷ xs) [] h = absurd h
zip_length R (x ∷ xs) (y ∷ ys) h = ap (λ n. suc n) (zip_length R xs ys h.1)

pub zip_at : {A B : Type 0} (R : A → B → Type 0) (xs : List A) (ys : List B) → AllZip R xs ys → (i : ℕ) (a : A) (b : B) → i < length ys
    → R (get_or xs i a) (get_or ys i b)
zip_at R [] [] h i a b short = absurd (omega arith)
zip_at R [] (y ∷ ys) h i a b short = absurd h
zip_at R (x ∷ xs) [] h i a b short = absurd h
zip_at R (x ∷ xs) (y ∷ ys) h zero a b short = h.0
zip_at R (x ∷ xs) (y ∷ ys) h (suc i) a b short = zip_at R xs ys h.1 i a b (omega arith)

-- ---- lists of lists

flat_more : {X : Type 0} (lists : List (List X)) (i : ℕ) → i < length lists
    → flat_map (λ l. l) (take (i + 1) lists) ≡ flat_map (λ l. l) (take i lists) ++ get_or lists i []
flat_more lists i short =
    ap (flat_map (λ l. l)) (take_more lists i [] short) ∙ flat_map-append (λ l. l) (take i lists) (get_or lists i [] ∷ [])
    ∙ ap (λ l. flat_map (λ l. l) (take i lists) ++ l) (append-nil (get_or lists i []))

-- the first lists and the next one have no more items than all
pub few_of_all : {X : Type 0} (lists : List (List X)) (i : ℕ) → i < length lists
    → length (flat_map (λ l. l) (take i lists)) + length (get_or lists i []) ≤ length (flat_map (λ l. l) lists)
few_of_all [] i short = absurd (omega arith)
few_of_all (list ∷ lists) zero short = omega (arith, length-append list (flat_map (λ l. l) lists))
few_of_all (list ∷ lists) (suc i) short =
    omega (arith, few_of_all lists i (omega arith), length-append list (flat_map (λ l. l) lists), length-append list (flat_map (λ l. l) (take i lists)))

-- the rows of a part of one list more
pub rows_in-more : (part : ℕ) (rows : List FoldedRow) (lists : List (List FoldedRow)) (i : ℕ) → i < length lists
    → (rows ++ rows_in part (flat_map (λ l. l) (take i lists))) ++ rows_in part (get_or lists i []) ≡ rows ++ rows_in part
    (flat_map (λ l. l) (take (i + 1) lists))
rows_in-more part rows lists i short =
    let before = flat_map (λ l. l) (take i lists) in
    let own = get_or lists i [] in
    append_assoc rows (rows_in part before) (rows_in part own)
    ∙ ap (λ l. rows ++ l) (sym (ap (rows_in part) (flat_more lists i short) ∙ filter-append _ before own))

pub few_in : (part : ℕ) (rows : List FoldedRow) → length (rows_in part rows) ≤ length rows
few_in part rows = few_matches _ rows

pub few_among : (parts : Tuples) (rows : List FoldedRow) → length (rows_among parts rows) ≤ length rows
few_among parts rows = few_matches _ rows

-- ---- rows of some parts

pub cond_same : {X : Type 0} (b : Bool) (x : X) → x ≡ cond b x x
cond_same true x = refl
cond_same false x = refl

-- the rows with a key, of those of some parts
pub with_among : (parts : Tuples) (k : Key) (rows : List FoldedRow) → rows_with k (rows_among parts rows) ≡ cond (parts (key_part k)) (rows_with k rows) []
with_among parts k [] = cond_same (parts (key_part k)) []
with_among parts k (row ∷ rows) =
    elim (same_key_tells row.key k) [
      | inl (is, e) ↦ rw (ap (λ (x : Key). parts (key_part x)) e) (mine (parts (key_part k)) is (with_among parts k rows))
      | inr (other, _) ↦ rw other (theirs (parts (key_part row.key)) other ∙ with_among parts k rows)
    ]
  where
    mine : (b : Bool) → same_key row.key k ≡ true → rows_with k (rows_among parts rows) ≡ cond b (rows_with k rows) []
        → rows_with k (cond b (row ∷ rows_among parts rows) (rows_among parts rows)) ≡ cond b
        (cond (same_key row.key k) (row ∷ rows_with k rows) (rows_with k rows)) []
    mine true is rest = rw is (ap (λ l. row ∷ l) rest)
    mine false is rest = rest

    theirs : (b : Bool) → same_key row.key k ≡ false
        → rows_with k (cond b (row ∷ rows_among parts rows) (rows_among parts rows)) ≡ rows_with k (rows_among parts rows)
    theirs true other = rw other refl
    theirs false other = refl

-- a side that folds rows folds others with the same rows of each key
pub Folds-same : (xs ys : List FoldedRow) (side : GroupTotals) → ((key : Key) → rows_with key ys ≡ rows_with key xs) → All FitsRow ys → Folds xs side
    → Folds ys side
Folds-same xs ys side same fit folds = record {
  totals = λ a lt k. folds.totals a lt k ∙ ap (λ l. aggregate (column_of side a).func (map (λ row. value_in row a) l)) (sym (same k));
  absent = λ k absent. same k ∙ folds.absent k absent;
  present = λ k none. folds.present k (sym (same k) ∙ none);
  fit = fit;
}

pub fits_all : (lists : List (List FoldedRow)) (sides : List GroupTotals) → AllZip Folds lists sides → All FitsRow (flat_map (λ l. l) lists)
fits_all [] [] h = All-nil FitsRow
fits_all [] (side ∷ sides) h = absurd h
fits_all (list ∷ lists) [] h = absurd h
fits_all (list ∷ lists) (side ∷ sides) h = All-append FitsRow list (flat_map (λ l. l) lists) h.0.fit (fits_all lists sides h.1)

-- ---- ranges of parts

past : (k n : ℕ) → n ≤ k → (k ≡ n → ⊥) → n + 1 ≤ k
past k n le other =
    elim (cases_lt n k) [
      | inl more ↦ omega (arith, more)
      | inr same ↦ absurd (other (omega (arith, le, same)))
    ]

-- a range with one number more
range_more : (from n k : ℕ) → from ≤ n → (range_of from n k || eqb k n) ≡ range_of from (n + 1) k
range_more from n k low =
    elim (cases_Bool (eqb k n)) [
      | inl here ↦
          let is : k ≡ n = eqb-true k n here in
          ap (λ b. range_of from n k || b) here ∙ or-true (range_of from n k)
          ∙ sym (ap (λ b. b && ltb k (n + 1)) (le-leb from k (omega (arith, is, low))) ∙ lt-ltb k (n + 1) (omega (arith, is)))
      | inr other ↦
          ap (λ b. range_of from n k || b) other ∙ or-false (range_of from n k)
          ∙ ap (λ b. leb from k && b) (same_below k n (λ is. true≢false (sym (eq-eqb k n is) ∙ other)))
    ]
  where
    same_below : (k n : ℕ) → (k ≡ n → ⊥) → ltb k n ≡ ltb k (n + 1)
    same_below k n other =
        elim (cases_Bool (ltb k n)) [
          | inl less ↦ less ∙ sym (lt-ltb k (n + 1) (omega (arith, ltb-true k n less)))
          | inr more ↦ more ∙ sym (le-ltb k (n + 1) (past k n (ltb-false k n more) other))
        ]

range_apart : (from n k : ℕ) → (range_of from n k && eqb k n) ≡ false
range_apart from n k =
    elim (cases_Bool (eqb k n)) [
      | inl here ↦ ap (λ b. (leb from k && b) && eqb k n) (le-ltb k n (omega (arith, eqb-true k n here))) ∙ ap (λ b. b && eqb k n) (and-false (leb from k))
      | inr other ↦ ap (λ b. range_of from n k && b) other ∙ and-false (range_of from n k)
    ]

cond_or : {X : Type 0} (a b : Bool) (xs : List X) → (a && b) ≡ false → cond a xs [] ++ cond b xs [] ≡ cond (a || b) xs []
cond_or true true xs apart = absurd (cc apart)
cond_or true false xs apart = append-nil xs
cond_or false b xs apart = refl

-- the rows of no parts
pub among_none : (n : ℕ) (rows : List FoldedRow) → rows_among (range_of n n) rows ≡ []
among_none n [] = refl
among_none n (row ∷ rows) =
    ap (λ b. cond b (row ∷ rows_among (range_of n n) rows) (rows_among (range_of n n) rows)) (empty (key_part row.key)) ∙ among_none n rows
  where
    empty : (k : ℕ) → range_of n n k ≡ false
    empty k =
        elim (cases_lt k n) [
          | inl less ↦ ap (λ b. b && ltb k n) (lt-leb n k less)
          | inr more ↦ ap (λ b. leb n k && b) (le-ltb k n more) ∙ and-false (leb n k)
        ]

-- the rows of one part more
pub part_more : (from n : ℕ) (rows all : List FoldedRow) (side : GroupTotals) → from ≤ n → All FitsRow all
    → Folds ((rows ++ rows_among (range_of from n) all) ++ rows_in n all) side → All FitsRow rows → Folds (rows ++ rows_among (range_of from (n + 1)) all) side
part_more from n rows all side low fit folds fit_rows =
    let before = rows_among (range_of from n) all in
    let after = rows_among (range_of from (n + 1)) all in
    Folds-same ((rows ++ before) ++ rows_in n all) (rows ++ after) side (λ k.
    let own = rows_with k rows in
    let with = rows_with k all in
    let part = key_part k in
    filter-append (λ row. same_key row.key k) rows after ∙ ap (λ l. own ++ l) (with_among (range_of from (n + 1)) k all)
    ∙ ap (λ b. own ++ cond b with []) (sym (range_more from n part low))
    ∙ ap (λ l. own ++ l) (sym (cond_or (range_of from n part) (eqb part n) with (range_apart from n part)))
    ∙ sym (append_assoc own (cond (range_of from n part) with []) (cond (eqb part n) with []))
    ∙ ap (λ l. (own ++ l) ++ cond (eqb part n) with []) (sym (with_among (range_of from n) k all))
    ∙ ap (λ l. (own ++ rows_with k before) ++ l) (sym (with_among (λ p. eqb p n) k all))
    ∙ ap (λ l. l ++ rows_with k (rows_in n all)) (sym (filter-append (λ row. same_key row.key k) rows before))
    ∙ sym (filter-append (λ row. same_key row.key k) (rows ++ before) (rows_in n all)))
    (All-append FitsRow rows after fit_rows (All-filter (λ row. range_of from (n + 1) (key_part row.key)) FitsRow all fit)) folds
