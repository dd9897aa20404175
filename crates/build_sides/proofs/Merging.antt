-- The groups of a part, gathered key by key, the last key first.
use Rattle.std.proofs.Common.{◌≡◌, ◌⊎◌, ℕ, zero, suc, ◌+◌, ◌<◌, ◌≤◌, cond, Bool, true, false, List, [], ◌∷◌, ◌++◌, length, drop, map, refl, sym, ap, ◌∙◌}
use Rattle.std.proofs.Common.{append_assoc, inl, inr, arith}
use Rattle.plan_ast.specs.Answer.{aggregate}
use Rattle.std.proofs.Math.Seq.{drop-cons}
use Rattle.std.proofs.lemmas.Bool.{true≢false}
use Rattle.std.proofs.lemmas.List.{append-nil}
use Rattle.std.proofs.lemmas.List.Elements.{All-append, All-filter, filter-append}
use Rattle.build_sides.specs.Chains.{key_at, no_key}
use Rattle.build_sides.specs.FoldedRows.{FoldedRow, rows_with, value_in}
use Rattle.build_sides.specs.GroupSides.{FitsRow, Folds, is_in_part, rows_in, column_of}
use Rattle.build_sides.specs.GroupTotals.{GroupTotals}
use Rattle.build_sides.specs.Numbered.{AreDistinct, IsAbsent, same_key}
use Rattle.build_sides.specs.declared.key_table.Key.{Key}
use Rattle.build_sides.proofs.Items.{same_key_tells}

-- the rows of those of these keys that are of this part, key by key, those of the last key first
abbrev pub gathered : ℕ → List Key → List FoldedRow → List FoldedRow
gathered part [] rows = []
gathered part (key ∷ keys) rows = gathered part keys rows ++ cond (is_in_part part key) (rows_with key rows) []

abbrev pub is_there : List Key → Key → Bool
is_there [] k = false
is_there (key ∷ keys) k = cond (same_key key k) true (is_there keys k)

cond_same : {A : Type 0} (b : Bool) (x : A) → x ≡ cond b x x
cond_same true x = refl
cond_same false x = refl

-- rows with one key, of those with another
with_twice : (key k : Key) (rows : List FoldedRow) → rows_with k (rows_with key rows) ≡ cond (same_key key k) (rows_with key rows) []
with_twice key k [] = cond_same (same_key key k) []
with_twice key k (row ∷ rows) =
    elim (same_key_tells row.key key) [
      | inl (is, e) ↦ elim (same_key_tells key k) [
        | inl (fits, e2) ↦ rw (is, fits, ap (λ x. same_key x k) e, fits) (ap (λ l. row ∷ l) (with_twice key k rows ∙ rw fits refl))
        | inr (other, _) ↦ rw (is, other, ap (λ x. same_key x k) e, other) (with_twice key k rows ∙ rw other refl)
      ]
      | inr (other, _) ↦ rw (other) (with_twice key k rows)
    ]

-- those with a key, of those of a part
with_of_part : (part : ℕ) (k : Key) (rows : List FoldedRow) → rows_with k (rows_in part rows) ≡ cond (is_in_part part k) (rows_with k rows) []
with_of_part part k [] = cond_same (is_in_part part k) []
with_of_part part k (row ∷ rows) =
    elim (same_key_tells row.key k) [
      | inl (is, e) ↦ rw (ap (is_in_part part) e) (mine (is_in_part part k) is (with_of_part part k rows))
      | inr (other, _) ↦ rw other (theirs (is_in_part part row.key) other ∙ with_of_part part k rows)
    ]
  where
    mine : (b : Bool) → same_key row.key k ≡ true → rows_with k (rows_in part rows) ≡ cond b (rows_with k rows) []
        → rows_with k (cond b (row ∷ rows_in part rows) (rows_in part rows)) ≡ cond b (cond (same_key row.key k) (row ∷ rows_with k rows) (rows_with k rows)) []
    mine true is rest = rw is (ap (λ l. row ∷ l) rest)
    mine false is rest = rest

    theirs : (b : Bool) → same_key row.key k ≡ false → rows_with k (cond b (row ∷ rows_in part rows) (rows_in part rows)) ≡ rows_with k (rows_in part rows)
    theirs true other = rw other refl
    theirs false other = refl

not_there : (keys : List Key) (k : Key) → IsAbsent keys k → is_there keys k ≡ false
not_there [] k absent = refl
not_there (key ∷ keys) k absent =
    elim (same_key_tells key k) [
      | inl (_, e) ↦ absurd (absent 0 (omega arith) e)
      | inr (other, _) ↦ rw other (not_there keys k (λ e lt. absent (suc e) (omega arith)))
    ]

is_absent : (keys : List Key) (k : Key) → is_there keys k ≡ false → IsAbsent keys k
is_absent [] k none e lt is = omega arith
is_absent (key ∷ keys) k none zero lt is =
    elim (same_key_tells key k) [ inl (fits, _) ↦ true≢false (rw fits at none) | inr (_, differ) ↦ differ is ]
is_absent (key ∷ keys) k none (suc e) lt is =
    elim (same_key_tells key k) [
      | inl (fits, _) ↦ true≢false (rw fits at none)
      | inr (other, _) ↦ is_absent keys k (rw other at none) e (omega arith) is
    ]

-- the rows of a key that is not the first one, of those of the first one
first_other : (part : ℕ) (key k : Key) (rows : List FoldedRow) → same_key key k ≡ false → rows_with k (cond (is_in_part part key) (rows_with key rows) []) ≡ []
first_other part key k rows other = by (is_in_part part key)
  where
    by : (b : Bool) → rows_with k (cond b (rows_with key rows) []) ≡ []
    by true = with_twice key k rows ∙ rw other refl
    by false = refl

first_this : (part : ℕ) (key k : Key) (rows : List FoldedRow) → same_key key k ≡ true → key ≡ k
    → rows_with k (cond (is_in_part part key) (rows_with key rows) []) ≡ cond (is_in_part part k) (rows_with k rows) []
first_this part key k rows fits e = by (is_in_part part key) ∙ ap (λ x. cond (is_in_part part x) (rows_with k rows) []) e
  where
    by : (b : Bool) → rows_with k (cond b (rows_with key rows) []) ≡ cond b (rows_with k rows) []
    by true = with_twice key k rows ∙ rw fits (ap (λ x. rows_with x rows) e)
    by false = refl

gathered-cons : (part : ℕ) (key : Key) (keys : List Key) (k : Key) (rows : List FoldedRow) (first : List FoldedRow)
    → rows_with k (cond (is_in_part part key) (rows_with key rows) []) ≡ first
    → rows_with k (gathered part (key ∷ keys) rows) ≡ rows_with k (gathered part keys rows) ++ first
gathered-cons part key keys k rows first is =
    filter-append (λ row. same_key row.key k) (gathered part keys rows) (cond (is_in_part part key) (rows_with key rows) [])
    ∙ ap (λ l. rows_with k (gathered part keys rows) ++ l) is

gathered-other : (part : ℕ) (key : Key) (keys : List Key) (k : Key) (rows : List FoldedRow) → same_key key k ≡ false
    → rows_with k (gathered part (key ∷ keys) rows) ≡ rows_with k (gathered part keys rows)
gathered-other part key keys k rows other =
    gathered-cons part key keys k rows [] (first_other part key k rows other) ∙ append-nil (rows_with k (gathered part keys rows))

gathered_absent : (part : ℕ) (keys : List Key) (k : Key) (rows : List FoldedRow) → is_there keys k ≡ false → rows_with k (gathered part keys rows) ≡ []
gathered_absent part [] k rows none = refl
gathered_absent part (key ∷ keys) k rows none =
    elim (same_key_tells key k) [
      | inl (fits, _) ↦ absurd (true≢false (rw fits at none))
      | inr (other, _) ↦ gathered-other part key keys k rows other ∙ gathered_absent part keys k rows (rw other at none)
    ]

gathered_there : (part : ℕ) (keys : List Key) (k : Key) (rows : List FoldedRow) → AreDistinct keys → is_there keys k ≡ true
    → rows_with k (gathered part keys rows) ≡ cond (is_in_part part k) (rows_with k rows) []
gathered_there part [] k rows distinct there = absurd (true≢false (sym there))
gathered_there part (key ∷ keys) k rows distinct there =
    elim (same_key_tells key k) [
      | inl (fits, e) ↦
          gathered-cons part key keys k rows (cond (is_in_part part k) (rows_with k rows) []) (first_this part key k rows fits e)
          ∙ ap (λ l. l ++ cond (is_in_part part k) (rows_with k rows) [])
          (gathered_absent part keys k rows (not_there keys k (λ f lt is. distinct 0 (suc f) (omega arith) (omega arith) (e ∙ sym is))))
      | inr (other, _) ↦
          gathered-other part key keys k rows other
          ∙ gathered_there part keys k rows (λ f g lt bound. distinct (suc f) (suc g) (omega arith) (omega arith)) (rw other at there)
    ]

-- the rows of all keys, key by key, are those of the part
part_gathered : (part : ℕ) (keys : List Key) (rows : List FoldedRow) → AreDistinct keys → ((k : Key) → IsAbsent keys k → rows_with k rows ≡ [])
    → (k : Key) → rows_with k (gathered part keys rows) ≡ rows_with k (rows_in part rows)
part_gathered part keys rows distinct absent k = by (is_there keys k) refl
  where
    nothing : (b : Bool) → rows_with k rows ≡ [] → cond b (rows_with k rows) [] ≡ []
    nothing true none = none
    nothing false none = refl

    by : (b : Bool) → is_there keys k ≡ b → rows_with k (gathered part keys rows) ≡ rows_with k (rows_in part rows)
    by true there = gathered_there part keys k rows distinct there ∙ sym (with_of_part part k rows)
    by false none = gathered_absent part keys k rows none
        ∙ sym (with_of_part part k rows ∙ nothing (is_in_part part k) (absent k (is_absent keys k none)))

-- of each key all rows of the part were gathered, or none
pub gathered_some : (part : ℕ) (keys : List Key) (rows : List FoldedRow) (k : Key) → AreDistinct keys
    → (rows_with k (gathered part keys rows) ≡ []) ⊎ (rows_with k (gathered part keys rows) ≡ rows_with k (rows_in part rows))
gathered_some part keys rows k distinct = by (is_there keys k) refl
  where
    by : (b : Bool) → is_there keys k ≡ b
        → (rows_with k (gathered part keys rows) ≡ []) ⊎ (rows_with k (gathered part keys rows) ≡ rows_with k (rows_in part rows))
    by true there = inr (gathered_there part keys k rows distinct there ∙ sym (with_of_part part k rows))
    by false none = inl (gathered_absent part keys k rows none)

-- one key more, which is of the part
pub gathered_more : (part : ℕ) (keys : List Key) (n : ℕ) (rows others : List FoldedRow) → n < length keys → is_in_part part (key_at keys n) ≡ true
    → (rows ++ gathered part (drop (suc n) keys) others) ++ rows_with (key_at keys n) others ≡ rows ++ gathered part (drop n keys) others
gathered_more part keys n rows others lt mine =
    append_assoc rows (gathered part (drop (suc n) keys) others) (rows_with (key_at keys n) others)
    ∙ ap (λ l. rows ++ l) (sym (
    ap (λ l. gathered part l others) (drop-cons keys n no_key lt)
    ∙ ap (λ b. gathered part (drop (suc n) keys) others ++ cond b (rows_with (key_at keys n) others) []) mine))

-- keys of other parts are passed over
pub gathered_past : (part : ℕ) (keys : List Key) (n count : ℕ) (others : List FoldedRow) → n + count ≤ length keys
    → ((e : ℕ) → n ≤ e → e < n + count → is_in_part part (key_at keys e) ≡ false)
    → gathered part (drop (n + count) keys) others ≡ gathered part (drop n keys) others
gathered_past part keys n zero others within none = ap (λ (m : ℕ). gathered part (drop m keys) others) (omega arith)
gathered_past part keys n (suc count) others within none =
    ap (λ (m : ℕ). gathered part (drop m keys) others) (omega arith)
    ∙ gathered_past part keys (suc n) count others (omega arith) (λ e le lt. none e (omega arith) (omega arith))
    ∙ sym (ap (λ l. gathered part l others) (drop-cons keys n no_key (omega arith))
    ∙ ap (λ b. gathered part (drop (suc n) keys) others ++ cond b (rows_with (key_at keys n) others) []) (none n (omega arith) (omega arith))
    ∙ append-nil (gathered part (drop (suc n) keys) others))

-- a side that folds the rows of all keys folds those of the part
pub merged_part : (part : ℕ) (rows others : List FoldedRow) (old side other : GroupTotals) → AreDistinct other.keys → Folds rows old → Folds others other
    → Folds (rows ++ gathered part other.keys others) side → Folds (rows ++ rows_in part others) side
merged_part part rows others old side other distinct before of_other folds =
    let same = λ (k : Key).
    filter-append (λ row. same_key row.key k) rows (rows_in part others)
    ∙ ap (λ l. rows_with k rows ++ l) (sym (part_gathered part other.keys others distinct of_other.absent k))
    ∙ sym (filter-append (λ row. same_key row.key k) rows (gathered part other.keys others)) in
    record {
      totals = λ a lt k. folds.totals a lt k ∙ ap (λ l. aggregate (column_of side a).func (map (λ row. value_in row a) l)) (sym (same k));
      absent = λ k absent. same k ∙ folds.absent k absent;
      present = λ k none. folds.present k (sym (same k) ∙ none);
      fit = All-append FitsRow rows (rows_in part others) before.fit (All-filter (λ row. is_in_part part row.key) FitsRow others of_other.fit);
    }

-- a key that was not gathered yet has only the rows that it had
pub gathered_before : (part : ℕ) (keys : List Key) (key : Key) (rows others : List FoldedRow) → IsAbsent keys key
    → rows_with key (rows ++ gathered part keys others) ≡ rows_with key rows
gathered_before part keys key rows others absent =
    filter-append (λ row. same_key row.key key) rows (gathered part keys others)
    ∙ ap (λ l. rows_with key rows ++ l) (gathered_absent part keys key others (not_there keys key absent))
    ∙ append-nil (rows_with key rows)
