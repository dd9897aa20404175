-- A loop over columns, place by place, and what contracts see of the columns after it.
use Rattle.std.proofs.Common.{◌≡◌, ℕ, suc, ℤ, pos, ◌+◌, ◌<◌, ◌≤◌, List, [], ◌∷◌, All, length, map, set, slice_index_or, refl, sym, ap, ◌∙◌, inl, inr}
use Rattle.std.proofs.Common.{arith}
use Rattle.std.proofs.lemmas.Bool.{cases_lt}
use Rattle.std.proofs.lemmas.List.{get_or-map, get_or_default, get_or-set_same, get_or-set_other, length-map}
use Rattle.plan_ast.specs.Answer.{aggregate}
use Rattle.plan_ast.specs.declared.queries.Func.{Func}
use Rattle.plan_ast.specs.declared.queries.Func.TheVariants.{Count}
use Rattle.plan_ast.specs.declared.answers.AggValue.{AggValue}
use Rattle.build_sides.specs.declared.columns.Column.{Column}
use Rattle.build_sides.specs.declared.key_table.Key.{Key}
use Rattle.build_sides.specs.Columns.{AddsTotal, FoldsValue, func_of, totals_of, values_of, with_total}
use Rattle.build_sides.specs.GroupSides.{AreGroups, funcs_of, total_at}
use Rattle.build_sides.specs.GroupTotals.{Totals, GroupTotals, no_totals, nothing_of}
use Rattle.build_sides.specs.Numbered.{Numbers}
use Rattle.build_sides.proofs.Folding.{PutsGroup}

-- one place more was done
pub done_more : (R : ℕ → Column → Column → Column → Type 0) (first now : List Column) (i : ℕ) (old new : Column) → i < length now
    → ((k : ℕ) (d : Column) → k < i → R k d (slice_index_or first k d) (slice_index_or now k d))
    → ((k : ℕ) (d : Column) → i ≤ k → slice_index_or now k d ≡ slice_index_or first k d)
    → old ≡ slice_index_or now i old → ((d : Column) → R i d old new)
    → (k : ℕ) (d : Column) → k < i + 1 → R k d (slice_index_or first k d) (slice_index_or (set now i new) k d)
done_more R first now i old new lt done rest at this k d within =
    elim (cases_lt k i) [
      | inl before ↦ rw (get_or-set_other now i k new d (λ e. omega arith)) (done k d before)
      | inr after ↦
          let here : k ≡ i = omega arith in
          let first_is : slice_index_or first i d ≡ old = sym (rest i d (omega arith)) ∙ get_or_default now i d old lt ∙ sym at in
          rw (here, get_or-set_same now i new d lt, first_is) (this d)
    ]

pub rest_less : (first now : List Column) (i : ℕ) (new : Column) → ((k : ℕ) (d : Column) → i ≤ k → slice_index_or now k d ≡ slice_index_or first k d)
    → (k : ℕ) (d : Column) → i + 1 ≤ k → slice_index_or (set now i new) k d ≡ slice_index_or first k d
rest_less first now i new rest k d after = get_or-set_other now i k new d (λ e. omega arith) ∙ rest k d (omega arith)

pub an_item : {A : Type 0} (xs : List A) (n : ℕ) → n < length xs → A
an_item [] n lt = absurd (omega arith)
an_item (x ∷ xs) n lt = x

pub column_at : (items : List Column) (a : ℕ) (d : Column) → a < length items
    → slice_index_or (map totals_of items) a no_totals ≡ totals_of (slice_index_or items a d)
column_at items a d lt = get_or-map totals_of items a d no_totals lt

pub same_count : (xs ys : List Column) → map totals_of xs ≡ map totals_of ys → length xs ≡ length ys
same_count xs ys same = sym (length-map xs totals_of) ∙ ap length same ∙ length-map ys totals_of

pub map-func : (xs : List Column) → map (λ (c : Totals). c.func) (map totals_of xs) ≡ map func_of xs
map-func [] = refl
map-func (x ∷ xs) = ap (λ l. func_of x ∷ l) (map-func xs)

pub func_count : (xs ys : List Column) → map func_of xs ≡ map func_of ys → length xs ≡ length ys
func_count xs ys same = sym (length-map xs func_of) ∙ ap length same ∙ length-map ys func_of

pub totals_count : (xs ys zs : List Column) → map totals_of xs ≡ map totals_of ys
    → map (λ (c : Totals). c.func) (map totals_of ys) ≡ map (λ (c : Totals). c.func) (map totals_of zs) → length zs ≡ length xs
totals_count xs ys zs same funcs = sym (func_count ys zs (sym (map-func ys) ∙ funcs ∙ map-func zs)) ∙ sym (same_count xs ys same)

-- each column got its total of the group
puts_each : (keys keys' : List Key) (key : Key) (n : ℕ) (middle new : List Column) (total : ℕ → AggValue) → Numbers keys keys' key n
    → length new ≡ length middle
    → ((a : ℕ) (d : Column) → a < length middle → totals_of (slice_index_or new a d) ≡ with_total (totals_of (slice_index_or middle a d)) n (total a))
    → PutsGroup (record { keys = keys; columns = map totals_of middle }) (record { keys = keys'; columns = map totals_of new }) key n total
puts_each keys keys' key n middle new total numbers count each = record {
  numbers = numbers;
  count = length-map new totals_of ∙ count ∙ sym (length-map middle totals_of);
  each = λ a lt.
      let within : a < length middle = omega (arith, length-map middle totals_of) in
      let d = an_item middle a within in
      column_at new a d (omega arith) ∙ each a d within ∙ ap (λ (c : Totals). with_total c n (total a)) (sym (column_at middle a d within));
}

-- a group's values were folded
pub puts_values : (keys keys' : List Key) (key : Key) (n : ℕ) (columns : List Totals) (middle new : List Column) (values : List ℤ) → Numbers keys keys' key n
    → map totals_of middle ≡ columns → length new ≡ length middle
    → ((a : ℕ) (d : Column) → a < length middle → FoldsValue n (slice_index_or values a (pos 0)) (slice_index_or middle a d) (slice_index_or new a d))
    → PutsGroup (record { keys = keys; columns = columns }) (record { keys = keys'; columns = map totals_of new }) key n
    (λ a. aggregate (slice_index_or columns a no_totals).func (slice_index_or values a (pos 0) ∷ []))
puts_values keys keys' key n columns middle new values numbers is count each =
    rw (sym is) (puts_each keys keys' key n middle new (λ a. aggregate (slice_index_or (map totals_of middle) a no_totals).func
    (slice_index_or values a (pos 0) ∷ [])) numbers count (λ a d within.
    each a d within ∙ ap (λ (c : Totals). with_total (totals_of (slice_index_or middle a d)) n (aggregate c.func (slice_index_or values a (pos 0) ∷ [])))
    (sym (column_at middle a d within))))

-- another side's totals were added
pub puts_totals : (keys keys' others_keys : List Key) (key : Key) (n from : ℕ) (first middle new others : List Column) → Numbers keys keys' key n
    → map totals_of middle ≡ map totals_of first
    → map (λ (c : Totals). c.func) (map totals_of first) ≡ map (λ (c : Totals). c.func) (map totals_of others) → length new ≡ length middle
    → ((a : ℕ) (d : Column) → a < length middle → AddsTotal n from (slice_index_or others a d) (slice_index_or middle a d) (slice_index_or new a d))
    → PutsGroup (record { keys = keys; columns = map totals_of first }) (record { keys = keys'; columns = map totals_of new }) key n
    (λ a. total_at (record { keys = others_keys; columns = map totals_of others }) a from)
puts_totals keys keys' others_keys key n from first middle new others numbers is funcs count each =
    let same : length others ≡ length middle = totals_count middle first others is funcs in
    rw (sym is) (puts_each keys keys' key n middle new (λ a. total_at (record { keys = others_keys; columns = map totals_of others }) a from) numbers count
    (λ a d within.
    (each a d within).is ∙ ap (λ (c : Totals). with_total (totals_of (slice_index_or middle a d)) n (slice_index_or c.values from (nothing_of c)))
    (sym (column_at others a d (omega arith)))))

pub same_funcs : (xs ys : List Totals) → length xs ≡ length ys
    → ((a : ℕ) → a < length ys → (slice_index_or xs a no_totals).func ≡ (slice_index_or ys a no_totals).func)
    → map (λ (c : Totals). c.func) xs ≡ map (λ (c : Totals). c.func) ys
same_funcs [] [] count each = refl
same_funcs [] (y ∷ ys) count each = absurd (omega arith)
same_funcs (x ∷ xs) [] count each = absurd (omega arith)
same_funcs (x ∷ xs) (y ∷ ys) count each =
    ap (λ f. f ∷ map (λ (c : Totals). c.func) xs) (each 0 (omega arith))
    ∙ ap (λ l. y.func ∷ l) (same_funcs xs ys (omega arith) (λ a lt. each (suc a) (omega arith)))

-- the aggregates stay
pub funcs_stay : (old new : GroupTotals) (key : Key) (n : ℕ) (total : ℕ → AggValue) → PutsGroup old new key n total → funcs_of new ≡ funcs_of old
funcs_stay old new key n total h = same_funcs new.columns old.columns h.count (λ a lt. ap (λ (c : Totals). c.func) (h.each a lt))

-- the columns of a side have a total of each group
pub all_same : (items : List Column) (count : ℕ)
    → ((a : ℕ) → a < length (map totals_of items) → length (slice_index_or (map totals_of items) a no_totals).values ≡ count)
    → All (λ c. length (values_of c) ≡ count) items
all_same items count same k d lt =
    ap (λ (c : Totals). length c.values) (sym (column_at items k d lt)) ∙ same k (omega (arith, length-map items totals_of))

-- columns of the same aggregates have them place by place
pub func_same : (xs ys : List Column) (i : ℕ) (x y : Column) → map func_of xs ≡ map func_of ys → i < length xs → i < length ys
    → x ≡ slice_index_or xs i x → y ≡ slice_index_or ys i y → func_of x ≡ func_of y
func_same xs ys i x y same lt lt' at at' =
    ap func_of at ∙ sym (get_or-map func_of xs i x Count lt) ∙ ap (λ l. slice_index_or l i Count) same ∙ get_or-map func_of ys i y Count lt'
    ∙ sym (ap func_of at')

pub map-func_none : (funcs : List Func) → map (λ (c : Totals). c.func) (map (λ f. record { func = f; values = [] }) funcs) ≡ funcs
map-func_none [] = refl
map-func_none (f ∷ funcs) = ap (λ l. f ∷ l) (map-func_none funcs)

-- a side without groups
pub groups_none : (keys : List Key) (columns : List Totals) (funcs : List Func) → keys ≡ [] → columns ≡ map (λ f. record { func = f; values = [] }) funcs
    → AreGroups (record { keys = keys; columns = columns })
groups_none keys columns funcs none is =
    let make : Func → Totals = λ f. record { func = f; values = [] } in
    rw (none, is) (record {
      distinct = λ e f lt bound. absurd (omega arith);
      same = λ a lt. ap (λ (c : Totals). length c.values) (get_or-map make funcs a Count no_totals (omega (arith, length-map funcs make)));
    })
