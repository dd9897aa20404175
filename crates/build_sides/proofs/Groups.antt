-- The groups of a side that folds rows.
use Rattle.std.proofs.Common.{◌≡◌, ℕ, ℤ, pos, ◌+◌, ◌^◌, ◌<◌, ◌≤◌, true, List, [], ◌∷◌, ◌++◌, All, length, slice_index_or, refl, sym, ap, ◌∙◌, inl, inr}
use Rattle.std.proofs.Common.{arith}
use Rattle.std.proofs.lemmas.List.{get_or-map, length-map}
use Rattle.std.proofs.lemmas.List.Elements.{All-cons, All-filter, All-nil, All-weaker, filter_passes}
use Rattle.plan_ast.specs.Answer.{aggregate}
use Rattle.plan_ast.specs.declared.queries.Func.TheVariants.{Count}
use Rattle.build_sides.specs.Chains.{key_at}
use Rattle.build_sides.specs.FoldedRows.{FoldedRow, rows_with, total_of}
use Rattle.build_sides.specs.GroupSides.{AreGroups, FitsRow, Folds, column_of, funcs_of, total_at}
use Rattle.build_sides.specs.GroupTotals.{Totals, GroupTotals, no_totals, nothing_of}
use Rattle.build_sides.specs.Numbered.{same_key}
use Rattle.build_sides.specs.declared.key_table.Key.{Key}
use Rattle.build_sides.proofs.Folding.{AllOf, PutsGroup, folds_more, values_at}
use Rattle.build_sides.proofs.Items.{item_at-number, same_key_tells}

-- the total of a group is what its aggregate makes of the rows with its key
pub total_is : (side : GroupTotals) (rows : List FoldedRow) (n a : ℕ) → AreGroups side → Folds rows side → n < length side.keys → a < length side.columns
    → total_at side a n ≡ total_of (column_of side a).func a (key_at side.keys n) rows
total_is side rows n a groups folds lt within =
    let column = column_of side a in
    sym (item_at-number (nothing_of column) side.keys column.values (key_at side.keys n) n groups.distinct lt refl)
    ∙ folds.totals a within (key_at side.keys n)

all_with : (key : Key) (rows : List FoldedRow) → AllOf key (rows_with key rows)
all_with key rows =
    All-weaker (λ row. same_key row.key key ≡ true) (λ row. row.key ≡ key)
    (λ row is. elim (same_key_tells row.key key) [ inl (_, e) ↦ e | inr (other, _) ↦ absurd (cc) ])
    (rows_with key rows) (filter_passes (λ row. same_key row.key key) rows)

some_with : (side : GroupTotals) (rows : List FoldedRow) (n : ℕ) → Folds rows side → n < length side.keys → 0 < length (rows_with (key_at side.keys n) rows)
some_with side rows n folds lt = by (rows_with (key_at side.keys n) rows) (λ none. folds.present (key_at side.keys n) none n lt refl)
  where
    by : (xs : List FoldedRow) → (xs ≡ [] → ⊥) → 0 < length xs
    by [] not = absurd (not refl)
    by (x ∷ xs) not = omega arith

func_at : (side : GroupTotals) (a : ℕ) → a < length side.columns → slice_index_or (funcs_of side) a Count ≡ (column_of side a).func
func_at side a lt = get_or-map (λ (c : Totals). c.func) side.columns a no_totals Count lt

pub All-one : {A : Type 0} (P : A → Type 0) (x : A) → P x → All P (x ∷ [])
All-one P x h = All-cons P x [] h (All-nil P)

-- a row was folded
pub folds_row : (old new : GroupTotals) (key : Key) (n : ℕ) (values : List ℤ) (rows : List FoldedRow) → AreGroups old
    → PutsGroup old new key n (λ a. aggregate (column_of old a).func (slice_index_or values a (pos 0) ∷ []))
    → FitsRow (record { key = key; values = values }) → length rows < 2 ^ 62 → length (rows_with key rows) ≤ length rows → Folds rows old
    → Folds (rows ++ record { key = key; values = values } ∷ []) new
folds_row old new key n values rows groups puts fits few bound folds =
    folds_more old new key n (λ a. aggregate (column_of old a).func (slice_index_or values a (pos 0) ∷ [])) rows
    (record { key = key; values = values } ∷ []) groups puts
    (λ a lt. refl) (All-one (λ row. row.key ≡ key) (record { key = key; values = values }) refl) (omega arith)
    (All-one FitsRow (record { key = key; values = values }) fits) (omega arith) folds

-- the totals of another side's group were added
pub folds_group : (old new other : GroupTotals) (n from : ℕ) (rows others : List FoldedRow) → AreGroups old → AreGroups other → from < length other.keys
    → funcs_of old ≡ funcs_of other → PutsGroup old new (key_at other.keys from) n (λ a. total_at other a from)
    → length (rows_with (key_at other.keys from) rows) + length (rows_with (key_at other.keys from) others) ≤ 2 ^ 62 → Folds rows old → Folds others other
    → Folds (rows ++ rows_with (key_at other.keys from) others) new
folds_group old new other n from rows others groups other_groups lt same puts few folds of_other =
    let key = key_at other.keys from in
    let count : length old.columns ≡ length other.columns =
    sym (length-map old.columns (λ (c : Totals). c.func)) ∙ ap length same ∙ length-map other.columns (λ (c : Totals). c.func) in
    folds_more old new key n (λ a. total_at other a from) rows (rows_with key others) groups puts
    (λ a within.
    let inside : a < length other.columns = omega arith in
    total_is other others from a other_groups of_other lt inside
    ∙ ap (λ f. aggregate f (values_at a (rows_with key others)))
    (sym (func_at other a inside) ∙ ap (λ l. slice_index_or l a Count) (sym same) ∙ func_at old a within))
    (all_with key others) (some_with other others from of_other lt)
    (All-filter (λ row. same_key row.key key) FitsRow others of_other.fit) few folds
