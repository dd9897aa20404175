-- A group side that folds rows of groups that it has, column by column.
use Rattle.std.proofs.Common.{◌≡◌, ◌≢◌, ℕ, zero, suc, ℤ, ◌+◌, ◌^◌, ◌<◌, ◌≤◌, false, List, [], ◌∷◌, ◌++◌, Some, All, drop, get_or, length, map, take}
use Rattle.std.proofs.Common.{slice_index}
use Rattle.std.proofs.Common.{slice_index_or, refl, sym, ap, ◌∙◌, subst, inl, inr, append_assoc, arith, length-append, w64, FitsSigned}
use Rattle.std.proofs.Math.Seq.{take-add, take-suc}
use Rattle.std.proofs.lemmas.List.{append-nil, get_or_default, get_or-map, get_or-take, length-map, length-take, map-append, take_all, take_more}
use Rattle.std.proofs.lemmas.List.Elements.{All-head, All-tail, All-append}
use Rattle.col_table.specs.NamedRows.{NamedRows}
use Rattle.plan_ast.specs.Answer.{aggregate}
use Rattle.plan_ast.specs.declared.places.AggAt.{AggAt}
use Rattle.plan_ast.specs.declared.places.ColumnAt.{ColumnAt}
use Rattle.build_sides.specs.Chains.{no_key}
use Rattle.build_sides.specs.Columns.{FoldsValues, totals_of, with_values, wrapped_agg_sum}
use Rattle.build_sides.specs.FoldedRows.{FoldedRow, column_in, folded_at, folded_value, key_by, rows_with, total_of, value_in}
use Rattle.build_sides.specs.GroupSides.{AreGroups, FitsRow, Folds, column_of, funcs_of}
use Rattle.build_sides.specs.GroupTotals.{Totals, GroupTotals, nothing_of}
use Rattle.build_sides.specs.Numbered.{NumberIs, item_at, same_key}
use Rattle.build_sides.specs.declared.columns.Column.{Column}
use Rattle.build_sides.specs.declared.key_table.Key.{Key}
use Rattle.build_sides.proofs.Folding.{known_column, length-rows_with, nil_parts, rows_with-append}
use Rattle.build_sides.proofs.Groups.{All-one}
use Rattle.build_sides.proofs.Items.{same_key_tells}
use Rattle.build_sides.proofs.Places.{an_item, column_at, same_funcs}
use Rattle.build_sides.proofs.Puts.{length-puts}
use Rattle.build_sides.proofs.TableRows.{agg_value}

-- no row has this key
rows_with-none : (key : Key) (rows : List FoldedRow) → All (λ row. row.key ≢ key) rows → rows_with key rows ≡ []
rows_with-none key [] none = refl
rows_with-none key (row ∷ rows) none =
    let here : same_key row.key key ≡ false = elim (same_key_tells row.key key) [
      | inl (_, e) ↦ absurd (All-head (λ r. r.key ≢ key) row rows none e)
      | inr (other, _) ↦ other
    ] in
    rw here (rows_with-none key rows (All-tail (λ r. r.key ≢ key) row rows none))

abbrev row_in : List FoldedRow → ℕ → FoldedRow
row_in rows k = slice_index_or rows k (record { key = no_key; values = [] })

-- a side folds some rows more
pub record IsFolded (old new : GroupTotals) (more : List FoldedRow) : Type 0 where
  pub groups : AreGroups new
  pub funcs : funcs_of new ≡ funcs_of old
  pub folds : (done : List FoldedRow) → length done + length more ≤ 2 ^ 62 → Folds done old → Folds (done ++ more) new

module _ (old new : GroupTotals) (numbers : List ℕ) (more : List FoldedRow) (value : ℕ → ℕ → ℤ) (groups : AreGroups old) (keys : new.keys ≡ old.keys)
    (count : length new.columns ≡ length old.columns)
    (known : (k : ℕ) → k < length more → NumberIs old.keys (row_in more k).key (Some (slice_index numbers k)))
    (each : (a : ℕ) → a < length old.columns → column_of new a ≡ with_values (column_of old a) numbers (value a) (length more))
    (values : (a k : ℕ) → k < length more → value a k ≡ value_in (row_in more k) a)
    (fit : All FitsRow more) where
  same_after : (a k : ℕ) → a < length old.columns → k ≤ length more
      → length (with_values (column_of old a) numbers (value a) k).values ≡ length old.keys
  same_after a k within le =
      let same = groups.same a within in
      length-puts wrapped_agg_sum (column_of old a).values numbers (λ j. aggregate (column_of old a).func (value a j ∷ [])) k
      (λ j lt. rw same (known j (omega arith)).0) ∙ same

  groups_known : AreGroups new
  groups_known = record {
    distinct = rw keys groups.distinct;
    same = λ a lt.
        let within : a < length old.columns = omega arith in
        ap (λ (c : Totals). length c.values) (each a within) ∙ same_after a (length more) within (omega arith) ∙ ap length (sym keys);
  }

  funcs_known : funcs_of new ≡ funcs_of old
  funcs_known = same_funcs new.columns old.columns count (λ a lt. ap (λ (c : Totals). c.func) (each a lt))

  module _ (done : List FoldedRow) (few : length done + length more ≤ 2 ^ 62) (folds : Folds done old) where
    -- a column after the first rows
    holds_after : (a : ℕ) → a < length old.columns → (k : ℕ) → k ≤ length more → (key : Key)
        → item_at (nothing_of (column_of old a)) old.keys (with_values (column_of old a) numbers (value a) k).values key
        ≡ total_of (column_of old a).func a key (done ++ take k more)
    holds_after a within zero le key =
        folds.totals a within key ∙ ap (total_of (column_of old a).func a key) (sym (append-nil done))
    holds_after a within (suc k) le key =
        let lt : k < length more = omega arith in
        let func = (column_of old a).func in
        let row = row_in more k in
        let rows = done ++ take k more in
        let taken : length rows ≤ length done + k = omega (arith, length-append done (take k more), length-take k more) in
        let fit_taken : All FitsRow (take k more) = λ j d short.
        let before : j < k = omega (arith, length-take k more) in
        rw (get_or-take k more j d before) (fit j d (omega arith)) in
        known_column old.keys row.key (slice_index numbers k) (with_values (column_of old a) numbers (value a) k) (aggregate func (value a k ∷ [])) a
        rows (row ∷ []) groups.distinct (same_after a k within (omega arith)) (holds_after a within k (omega arith))
        (All-one (λ (r : FoldedRow). r.key ≡ row.key) row refl) (ap (λ v. aggregate func (v ∷ [])) (values a k lt))
        (All-append FitsRow done (take k more) folds.fit fit_taken) (All-one FitsRow row (fit k _ lt))
        (omega (arith, length-rows_with row.key rows, taken)) (known k lt).0 (known k lt).1 key
        ∙ ap (total_of func a key) (append_assoc done (take k more) (row ∷ []) ∙ ap (λ l. done ++ l) (sym (take-suc more k _ lt)))

    folds_known : Folds (done ++ more) new
    folds_known = record {
      totals = λ a lt key.
          let within : a < length old.columns = omega arith in
          let P : Totals → List Key → Type 0 = λ c ks. item_at (nothing_of c) ks c.values key ≡ total_of c.func a key (done ++ more) in
          let whole : take (length more) more ≡ more = take_all (length more) more (omega arith) in
          subst (λ (c : Totals). P c new.keys) (sym (each a within))
          (subst (λ (ks : List Key). P (with_values (column_of old a) numbers (value a) (length more)) ks) (sym keys)
          (holds_after a within (length more) (omega arith) key ∙ ap (λ l. total_of (column_of old a).func a key (done ++ l)) whole));
      absent = λ key absent.
          rows_with-append key done more ∙ ap (λ l. l ++ rows_with key more) (folds.absent key (rw keys at absent))
          ∙ rows_with-none key more (λ k d lt is.
          (rw keys at absent) (slice_index numbers k) (known k lt).0
          ((known k lt).1 ∙ ap (λ (r : FoldedRow). r.key) (get_or_default more k (record { key = no_key; values = [] }) d lt) ∙ is));
      present = λ key none. rw keys (folds.present key (nil_parts (rows_with key done) (rows_with key more) (sym (rows_with-append key done more) ∙ none)).0);
      fit = All-append FitsRow done more folds.fit fit;
    }

  folded : IsFolded old new more
  folded = record { groups = groups_known; funcs = funcs_known; folds = folds_known }

-- rows of a table
module _ (table : NamedRows) (by : List ColumnAt) (aggs : List AggAt) (keys : List Key) (columns columns' : List Column) (rows numbers : List ℕ)
    (groups : AreGroups (record { keys = keys; columns = map totals_of columns })) (same : length rows ≡ length numbers)
    (known : (k : ℕ) → k < length rows → NumberIs keys (key_by table by (slice_index rows k)) (Some (slice_index numbers k)))
    (count : length columns' ≡ length columns)
    (each : (a : ℕ) (d : Column) → a < length columns
    → FoldsValues numbers (λ k. folded_value table (slice_index rows k) (column_in aggs a)) (slice_index_or columns a d) (slice_index_or columns' a d))
    (fits : (a k : ℕ) → k < length rows → FitsSigned w64 (folded_value table (slice_index rows k) (column_in aggs a))) where
  abbrev old_side : GroupTotals
  old_side = record { keys = keys; columns = map totals_of columns }

  abbrev new_side : GroupTotals
  new_side = record { keys = keys; columns = map totals_of columns' }

  abbrev more : List FoldedRow
  more = map (folded_at table by aggs) rows

  abbrev value : ℕ → ℕ → ℤ
  value a k = folded_value table (slice_index rows k) (column_in aggs a)

  length_more : length more ≡ length rows
  length_more = length-map rows (folded_at table by aggs)

  row_is : (k : ℕ) (d : FoldedRow) → k < length more → slice_index_or more k d ≡ folded_at table by aggs (slice_index rows k)
  row_is k d lt = get_or-map (folded_at table by aggs) rows k 0 d (omega (arith, length_more))

  each_is : (a : ℕ) → a < length (map totals_of columns) → column_of new_side a ≡ with_values (column_of old_side a) numbers (value a) (length more)
  each_is a lt =
      let within : a < length columns = omega (arith, length-map columns totals_of) in
      let d = an_item columns a within in
      let all : length numbers ≡ length more = sym (length_more ∙ same) in
      column_at columns' a d (omega arith) ∙ (each a d within).is
      ∙ ap (λ (c : Totals). with_values c numbers (value a) (length numbers)) (sym (column_at columns a d within))
      ∙ ap (with_values (column_of old_side a) numbers (value a)) all

  known_is : (k : ℕ) → k < length more → NumberIs keys (row_in more k).key (Some (slice_index numbers k))
  known_is k lt =
      subst (λ (r : FoldedRow). NumberIs keys r.key (Some (slice_index numbers k))) (sym (row_is k _ lt)) (known k (omega (arith, length_more)))

  value_is : (a k : ℕ) (d : FoldedRow) → k < length more → value a k ≡ value_in (slice_index_or more k d) a
  value_is a k d lt = sym (ap (λ (r : FoldedRow). value_in r a) (row_is k d lt) ∙ agg_value table (slice_index rows k) aggs a)

  count_is : length (map totals_of columns') ≡ length (map totals_of columns)
  count_is = length-map columns' totals_of ∙ count ∙ sym (length-map columns totals_of)

  fit_is : All FitsRow more
  fit_is = λ k d lt a. subst (FitsSigned w64) (value_is a k d lt) (fits a k (omega (arith, length_more)))

  folded_rows : IsFolded old_side new_side more
  folded_rows = folded old_side new_side numbers more value groups refl count_is known_is each_is (λ a k lt. value_is a k _ lt) fit_is

-- the first rows of a table
pub folded_first : (table : NamedRows) (by : List ColumnAt) (aggs : List AggAt) (keys : List Key) (columns columns' : List Column)
    (rows numbers : List ℕ) (m : ℕ)
    → AreGroups (record { keys = keys; columns = map totals_of columns }) → m ≤ length rows → length rows ≤ length numbers
    → ((k : ℕ) → k < m → NumberIs keys (key_by table by (slice_index rows k)) (Some (slice_index numbers k))) → length columns' ≡ length columns
    → ((a : ℕ) (d : Column) → a < length columns → FoldsValues (take m numbers)
    (λ k. folded_value table (slice_index (take m rows) k) (column_in aggs a)) (slice_index_or columns a d) (slice_index_or columns' a d))
    → ((a k : ℕ) → k < length (take m rows) → FitsSigned w64 (folded_value table (slice_index (take m rows) k) (column_in aggs a)))
    → IsFolded (record { keys = keys; columns = map totals_of columns }) (record { keys = keys; columns = map totals_of columns' })
    (map (folded_at table by aggs) (take m rows))
folded_first table by aggs keys columns columns' rows numbers m groups few room known count each fits =
    folded_rows table by aggs keys columns columns' (take m rows) (take m numbers) groups (omega (arith, length-take m rows, length-take m numbers))
    (λ k lt.
    let before : k < m = omega (arith, length-take m rows) in
    rw (get_or-take m rows k 0 before, get_or-take m numbers k 0 before) (known k before))
    count each fits

-- ---- rows that are folded, one more, and those behind it

pub count_folded : (of : ℕ → FoldedRow) (before : List FoldedRow) (rows : List ℕ) (i : ℕ) → i ≤ length rows
    → length (before ++ map of (take i rows)) ≡ length before + i
count_folded of before rows i few = omega (arith, length-append before (map of (take i rows)), length-map (take i rows) of, length-take i rows)

pub rows_next : (of : ℕ → FoldedRow) (before : List FoldedRow) (rows : List ℕ) (i more : ℕ) → i < length rows
    → ((before ++ map of (take i rows)) ++ of (get_or rows i 0) ∷ []) ++ map of (take more (drop (i + 1) rows)) ≡ before ++ map of (take (i + 1 + more) rows)
rows_next of before rows i more short =
    let row : ℕ = get_or rows i 0 in
    let first = take i rows in
    let rest = take more (drop (i + 1) rows) in
    let parts : map of (take (i + 1 + more) rows) ≡ (map of first ++ of row ∷ []) ++ map of rest =
    ap (map of) (take-add (i + 1) more rows ∙ ap (λ l. l ++ rest) (take_more rows i 0 short)) ∙ map-append of (first ++ row ∷ []) rest
    ∙ ap (λ l. l ++ map of rest) (map-append of first (row ∷ [])) in
    ap (λ l. l ++ map of rest) (append_assoc before (map of first) (of row ∷ [])) ∙ append_assoc before (map of first ++ of row ∷ []) (map of rest)
    ∙ ap (λ l. before ++ l) (sym parts)
