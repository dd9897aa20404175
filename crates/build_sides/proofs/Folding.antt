-- A group side that folds more rows of one key.
use Rattle.std.proofs.Common.{◌≡◌, ◌≢◌, ℕ, ℤ, ◌+◌, ◌^◌, ◌<◌, ◌≤◌, cond, Bool, true, false, List, [], ◌∷◌, ◌++◌, All, length, map, slice_index_or, refl}
use Rattle.std.proofs.Common.{sym, ap, ◌∙◌, subst, inl, inr, arith, length-append}
use Rattle.std.specs.Int.{w64}
use Rattle.std.specs.Int.RustNames.{FitsSigned}
use Rattle.std.proofs.lemmas.Bool.{cases_lt, true≢false}
use Rattle.std.proofs.lemmas.Grind.{common_steps}
use Rattle.std.proofs.lemmas.List.{append-nil, map-append, get_or_default, get_or_append_left, length-map, length-set}
use Rattle.std.proofs.lemmas.List.Elements.{All-head, All-tail, All-append, All-filter, All-map, All-weaker, filter-append}
use Rattle.plan_ast.specs.Answer.{aggregate}
use Rattle.plan_ast.specs.declared.queries.Func.{Func}
use Rattle.plan_ast.specs.declared.answers.AggValue.{AggValue}
use Rattle.build_sides.specs.Chains.{key_at, no_key}
use Rattle.build_sides.specs.Columns.{wrapped_agg_sum, put, with_total}
use Rattle.build_sides.specs.FoldedRows.{FoldedRow, value_in, rows_with, total_of}
use Rattle.build_sides.specs.GroupSides.{AreGroups, FitsRow, Folds, column_of, total_in}
use Rattle.build_sides.specs.GroupTotals.{Totals, GroupTotals, nothing_of}
use Rattle.build_sides.specs.Numbered.{AreDistinct, IsAbsent, Numbers, item_at, same_key}
use Rattle.build_sides.specs.declared.key_table.Key.{Key}
use Rattle.build_sides.proofs.Aggregates.{merged-aggregates}
use Rattle.build_sides.proofs.Distinct.{distinct-more}
use Rattle.build_sides.proofs.Items.{item_at-number, item_at-set, item_at-more, same_key_tells}
use Rattle.build_sides.proofs.Puts.{put_known, put_next}

abbrev pub AllOf : Key → List FoldedRow → Type 0
AllOf key rows = All (λ row. row.key ≡ key) rows

pub nil_parts : {A : Type 0} (xs ys : List A) → xs ++ ys ≡ [] → (xs ≡ []) × (ys ≡ [])
nil_parts [] ys e = (refl, e)
nil_parts (x ∷ xs) ys e = absurd (cc)

some_not_nil : {A : Type 0} (xs : List A) → 0 < length xs → xs ≡ [] → ⊥
some_not_nil [] lt e = omega arith
some_not_nil (x ∷ xs) lt e = cc

differ : (a b : Key) → same_key a b ≡ false → a ≢ b
differ a b other = elim (same_key_tells a b) [ inl (is, _) ↦ absurd (true≢false (sym is ∙ other)) | inr (_, h) ↦ h ]

absent_more : (keys : List Key) (key k : Key) → IsAbsent keys k → key ≢ k → IsAbsent (keys ++ key ∷ []) k
absent_more keys key k absent other = λ e lt is. grind (arith, common_steps, length-append, absent e)

-- the values that the aggregate at this place folds
abbrev pub values_at : ℕ → List FoldedRow → List ℤ
values_at place rows = map (λ row. value_in row place) rows

pub rows_with-append : (key : Key) (xs ys : List FoldedRow) → rows_with key (xs ++ ys) ≡ rows_with key xs ++ rows_with key ys
rows_with-append key xs ys = filter-append (λ row. same_key row.key key) xs ys

-- rows that all have one key
rows_with-this : (key k : Key) (rows : List FoldedRow) → same_key key k ≡ true → AllOf key rows → rows_with k rows ≡ rows
rows_with-this key k [] is all = refl
rows_with-this key k (row ∷ rows) is all =
    let here : same_key row.key k ≡ true = ap (λ x. same_key x k) (All-head (λ r. r.key ≡ key) row rows all) ∙ is in
    rw here (ap (λ l. row ∷ l) (rows_with-this key k rows is (All-tail (λ r. r.key ≡ key) row rows all)))

rows_with-other : (key k : Key) (rows : List FoldedRow) → same_key key k ≡ false → AllOf key rows → rows_with k rows ≡ []
rows_with-other key k [] is all = refl
rows_with-other key k (row ∷ rows) is all =
    let here : same_key row.key k ≡ false = ap (λ x. same_key x k) (All-head (λ r. r.key ≡ key) row rows all) ∙ is in
    rw here (rows_with-other key k rows is (All-tail (λ r. r.key ≡ key) row rows all))

pub length-rows_with : (key : Key) (rows : List FoldedRow) → length (rows_with key rows) ≤ length rows
length-rows_with key [] = omega arith
length-rows_with key (row ∷ rows) = by (same_key row.key key) (length-rows_with key rows)
  where
    by : (b : Bool) → length (rows_with key rows) ≤ length rows → length (cond b (row ∷ rows_with key rows) (rows_with key rows)) ≤ length (row ∷ rows)
    by true le = omega arith
    by false le = omega arith

values_fit : (place : ℕ) (rows : List FoldedRow) → All FitsRow rows → All (FitsSigned w64) (values_at place rows)
values_fit place rows fit =
    All-map (FitsSigned w64) (λ row. value_in row place) rows (All-weaker FitsRow (λ row. FitsSigned w64 (value_in row place)) (λ row h. h place) rows fit)

total_of-more : (func : Func) (place : ℕ) (key : Key) (rows more : List FoldedRow) → AllOf key more → All FitsRow rows → All FitsRow more
    → length (rows_with key rows) + length more ≤ 2 ^ 62
    → wrapped_agg_sum (total_of func place key rows) (aggregate func (values_at place more)) ≡ total_of func place key (rows ++ more)
total_of-more func place key rows more all fit_rows fit_more few =
    let self : same_key key key ≡ true = elim (same_key_tells key key) [ inl (is, _) ↦ is | inr (_, differ) ↦ absurd (differ refl) ] in
    let old = rows_with key rows in
    merged-aggregates func (values_at place old) (values_at place more)
    (values_fit place old (All-filter (λ row. same_key row.key key) FitsRow rows fit_rows)) (values_fit place more fit_more)
    (omega (arith, length-map old (λ (row : FoldedRow). value_in row place), length-map more (λ (row : FoldedRow). value_in row place)))
    ∙ ap (aggregate func) (sym (map-append (λ row. value_in row place) old more))
    ∙ ap (λ l. aggregate func (values_at place l)) (sym (rows_with-append key rows more ∙ ap (λ l. old ++ l) (rows_with-this key key more self all)))

total_of-other : (func : Func) (place : ℕ) (key k : Key) (rows more : List FoldedRow) → same_key key k ≡ false → AllOf key more
    → total_of func place k rows ≡ total_of func place k (rows ++ more)
total_of-other func place key k rows more other all =
    ap (λ l. aggregate func (values_at place l))
    (sym (rows_with-append k rows more ∙ ap (λ l. rows_with k rows ++ l) (rows_with-other key k more other all) ∙ append-nil (rows_with k rows)))

module _ (keys : List Key) (key : Key) (n : ℕ) (column : Totals) (total : AggValue) (place : ℕ) (rows more : List FoldedRow)
    (distinct : AreDistinct keys) (same : length column.values ≡ length keys)
    (holds : (k : Key) → item_at (nothing_of column) keys column.values k ≡ total_of column.func place k rows)
    (all : AllOf key more) (is : total ≡ aggregate column.func (values_at place more))
    (fit_rows : All FitsRow rows) (fit_more : All FitsRow more) (few : length (rows_with key rows) + length more ≤ 2 ^ 62) where
  pub known_column : n < length keys → key_at keys n ≡ key
      → (k : Key) → item_at (nothing_of column) keys (put wrapped_agg_sum column.values n total) k ≡ total_of column.func place k (rows ++ more)
  known_column lt at k =
      let old = slice_index_or column.values n total in
      let here : old ≡ total_of column.func place key rows =
      get_or_default column.values n total (nothing_of column) (omega arith)
      ∙ sym (item_at-number (nothing_of column) keys column.values key n distinct lt at) ∙ holds key in
      let sum : wrapped_agg_sum old total ≡ total_of column.func place key (rows ++ more) =
      ap (λ z. wrapped_agg_sum z total) here ∙ ap (wrapped_agg_sum (total_of column.func place key rows)) is
      ∙ total_of-more column.func place key rows more all fit_rows fit_more few in
      ap (λ l. item_at (nothing_of column) keys l k) (put_known wrapped_agg_sum column.values n total (omega arith))
      ∙ item_at-set (nothing_of column) keys column.values n (wrapped_agg_sum old total) k distinct same lt
      ∙ ap (λ x. cond (same_key x k) (wrapped_agg_sum old total) (item_at (nothing_of column) keys column.values k)) at
      ∙ elim (same_key_tells key k) [
        | inl (fits, e) ↦ rw fits (sum ∙ ap (λ x. total_of column.func place x (rows ++ more)) e)
        | inr (other, _) ↦ rw other (holds k ∙ total_of-other column.func place key k rows more other all)
      ]

  new_column : n ≡ length keys → IsAbsent keys key → rows_with key rows ≡ []
      → (k : Key) → item_at (nothing_of column) (keys ++ key ∷ []) (put wrapped_agg_sum column.values n total) k ≡ total_of column.func place k (rows ++ more)
  new_column at absent none k =
      let self : same_key key key ≡ true = elim (same_key_tells key key) [ inl (fits, _) ↦ fits | inr (_, differ) ↦ absurd (differ refl) ] in
      let these : rows_with key (rows ++ more) ≡ more =
      rows_with-append key rows more ∙ ap (λ l. l ++ rows_with key more) none ∙ rows_with-this key key more self all in
      ap (λ l. item_at (nothing_of column) (keys ++ key ∷ []) l k) (put_next wrapped_agg_sum column.values n total (omega arith))
      ∙ item_at-more (nothing_of column) keys column.values key total k same absent
      ∙ elim (same_key_tells key k) [
        | inl (fits, e) ↦ rw fits (is ∙ ap (λ l. aggregate column.func (values_at place l)) (sym these)
            ∙ ap (λ x. total_of column.func place x (rows ++ more)) e)
        | inr (other, _) ↦ rw other (holds k ∙ total_of-other column.func place key k rows more other all)
      ]

-- a total of each aggregate was put for the group of this key
pub record PutsGroup (old new : GroupTotals) (key : Key) (n : ℕ) (total : ℕ → AggValue) : Type 0 where
  pub numbers : Numbers old.keys new.keys key n
  pub count : length new.columns ≡ length old.columns
  pub each : (a : ℕ) → a < length old.columns → column_of new a ≡ with_total (column_of old a) n (total a)

-- the number is that of a key of the new side
number_within : (old new : List Key) (key : Key) (n : ℕ) → Numbers old new key n → n < length new
number_within old new key n h =
    elim (cases_lt n (length old)) [
      | inl known ↦ rw (h.known known) known
      | inr next ↦ let added = h.added next in rw (added.1, added.0) (omega (arith, length-append old (key ∷ [])))
    ]

pub groups_more : (old new : GroupTotals) (key : Key) (n : ℕ) (total : ℕ → AggValue) → AreGroups old → PutsGroup old new key n total → AreGroups new
groups_more old new key n total groups h =
    elim (cases_lt n (length old.keys)) [
      | inl known ↦ record {
        distinct = rw (h.numbers.known known) groups.distinct;
        same = λ a lt.
            let within : a < length old.columns = omega (arith, h.count) in
            let same = groups.same a within in
            rw (h.each a within, put_known wrapped_agg_sum (column_of old a).values n (total a) (omega arith), h.numbers.known known) (length-set _ _ _ ∙ same);
      }
      | inr next ↦
          let added = h.numbers.added next in
          record {
            distinct = rw added.1 (distinct-more old.keys key groups.distinct added.2);
            same = λ a lt.
                let within : a < length old.columns = omega (arith, h.count) in
                let same = groups.same a within in
                rw (h.each a within, put_next wrapped_agg_sum (column_of old a).values n (total a) (omega arith), added.1)
                (omega (arith, length-append (column_of old a).values (total a ∷ []), length-append old.keys (key ∷ [])));
          }
    ]

module _ (old new : GroupTotals) (key : Key) (n : ℕ) (total : ℕ → AggValue) (rows more : List FoldedRow) (groups : AreGroups old)
    (h : PutsGroup old new key n total) (each : (a : ℕ) → a < length old.columns → total a ≡ aggregate (column_of old a).func (values_at a more))
    (all : AllOf key more) (some : 0 < length more) (fit : All FitsRow more) (few : length (rows_with key rows) + length more ≤ 2 ^ 62)
    (folds : Folds rows old) where
  totals_more : (a : ℕ) → a < length old.columns → (k : Key) → total_in new a k ≡ total_of (column_of new a).func a k (rows ++ more)
  totals_more a lt k =
      let column = column_of old a in
      let P : Totals → List Key → Type 0 = λ c keys. item_at (nothing_of c) keys c.values k ≡ total_of c.func a k (rows ++ more) in
      let step : P (with_total column n (total a)) new.keys =
      elim (cases_lt n (length old.keys)) [
        | inl known ↦
            let keys = h.numbers.known known in
            subst (λ (ks : List Key). P (with_total column n (total a)) ks) (sym keys)
            (known_column old.keys key n column (total a) a rows more groups.distinct (groups.same a lt) (folds.totals a lt) all (each a lt) folds.fit fit few
            known (ap (λ (ks : List Key). key_at ks n) (sym keys) ∙ h.numbers.is) k)
        | inr next ↦
            let added = h.numbers.added next in
            subst (λ (ks : List Key). P (with_total column n (total a)) ks) (sym added.1)
            (new_column old.keys key n column (total a) a rows more groups.distinct (groups.same a lt) (folds.totals a lt) all (each a lt) folds.fit fit few
            added.0 added.2 (folds.absent key added.2) k)
      ] in
      subst (λ (c : Totals). P c new.keys) (sym (h.each a lt)) step

  -- a key that is absent now was absent before
  absent_before : (k : Key) → IsAbsent new.keys k → IsAbsent old.keys k
  absent_before k absent e lt =
      elim (cases_lt n (length old.keys)) [
        | inl known ↦ rw (h.numbers.known known) at absent e lt
        | inr next ↦ let added = h.numbers.added next in
            λ is. (rw added.1 at absent) e (omega (arith, length-append old.keys (key ∷ []))) (get_or_append_left old.keys (key ∷ []) no_key e lt ∙ is)
      ]

  absent_now : (k : Key) → IsAbsent old.keys k → same_key key k ≡ false → IsAbsent new.keys k
  absent_now k absent other =
      elim (cases_lt n (length old.keys)) [
        | inl known ↦ rw (h.numbers.known known) absent
        | inr next ↦ rw (h.numbers.added next).1 (absent_more old.keys key k absent (differ key k other))
      ]

  pub folds_more : Folds (rows ++ more) new
  folds_more = record {
    totals = λ a lt k. totals_more a (omega (arith, h.count)) k;
    absent = λ k absent.
        elim (same_key_tells key k) [
          | inl (_, e) ↦ absurd (absent n (number_within old.keys new.keys key n h.numbers) (h.numbers.is ∙ e))
          | inr (other, _) ↦ rows_with-append k rows more ∙ ap (λ l. l ++ rows_with k more) (folds.absent k (absent_before k absent))
              ∙ rows_with-other key k more other all
        ];
    present = λ k none.
        let none_before : rows_with k rows ≡ [] = (nil_parts (rows_with k rows) (rows_with k more) (sym (rows_with-append k rows more) ∙ none)).0 in
        let none_more : rows_with k more ≡ [] = (nil_parts (rows_with k rows) (rows_with k more) (sym (rows_with-append k rows more) ∙ none)).1 in
        elim (same_key_tells key k) [
          | inl (same, _) ↦ absurd (some_not_nil more some (sym (rows_with-this key k more same all) ∙ none_more))
          | inr (other, _) ↦ absent_now k (folds.present k none_before) other
        ];
    fit = All-append FitsRow rows more folds.fit fit;
  }
