-- Items that are put at a number.
use Rattle.std.proofs.Common.{◌≡◌, ℕ, zero, suc, ℤ, Some, ◌+◌, ◌<◌, ◌≤◌, List, [], ◌∷◌, ◌++◌, length, set, map, slice_index, slice_index_or, refl}
use Rattle.std.proofs.Common.{sym, ap, ◌∙◌, inl, inr}
use Rattle.std.proofs.Common.{add-one, arith}
use Rattle.std.proofs.lemmas.Bool.{cases_lt, lt-ltb, le-ltb}
use Rattle.std.proofs.lemmas.List.{get_or-map, map-set, map-append, length-map, length-set}
use Rattle.std.specs.Int.{int_min, int_max}
use Rattle.plan_ast.specs.declared.queries.Func.{Func}
use Rattle.plan_ast.specs.declared.answers.AggValue.{AggValue}
use Rattle.plan_ast.specs.declared.answers.AggValue.TheVariants as agg_value
use Rattle.build_sides.specs.GroupTotals.{Totals}
use Rattle.build_sides.specs.Columns.{count_sum, wrapped_agg_sum, put, puts, wrapped_sum}

pub put_known : {A : Type 0} (both : A → A → A) (items : List A) (n : ℕ) (item : A) → n < length items
    → put both items n item ≡ set items n (both (slice_index_or items n item) item)
put_known both items n item lt = rw (lt-ltb n (length items) lt) refl

pub put_next : {A : Type 0} (both : A → A → A) (items : List A) (n : ℕ) (item : A) → length items ≤ n → put both items n item ≡ items ++ item ∷ []
put_next both items n item le = rw (le-ltb n (length items) le) refl

-- what is put as numbers is put as what they stand for
pub map-put : {A B : Type 0} (f : A → B) (both : A → A → A) (together : B → B → B) → ((a b : A) → f (both a b) ≡ together (f a) (f b))
    → (items : List A) (n : ℕ) (item : A) → map f (put both items n item) ≡ put together (map f items) n (f item)
map-put f both together same items n item =
    elim (cases_lt n (length items)) [
      | inl lt ↦ ap (map f) (put_known both items n item lt) ∙ map-set f items n (both (slice_index_or items n item) item)
          ∙ ap (set (map f items) n) (same (slice_index_or items n item) item ∙ ap (λ a. together a (f item)) (sym (get_or-map f items n item (f item) lt)))
          ∙ sym (put_known together (map f items) n (f item) (rw length-map lt))
      | inr le ↦ ap (map f) (put_next both items n item le) ∙ map-append f items (item ∷ [])
          ∙ sym (put_next together (map f items) n (f item) (rw length-map le))
    ]

pub count_put : (items items' : List ℕ) (n count : ℕ) → items' ≡ put count_sum items n count
    → map (λ x. agg_value.Count x) items' ≡ put wrapped_agg_sum (map (λ x. agg_value.Count x) items) n (agg_value.Count count)
count_put items items' n count is = ap (map (λ x. agg_value.Count x)) is
    ∙ map-put (λ x. agg_value.Count x) count_sum wrapped_agg_sum (λ a b. refl) items n count

pub sum_put : (items items' : List ℤ) (n : ℕ) (sum : ℤ) → items' ≡ put wrapped_sum items n sum
    → map (λ x. agg_value.Sum x) items' ≡ put wrapped_agg_sum (map (λ x. agg_value.Sum x) items) n (agg_value.Sum sum)
sum_put items items' n sum is = ap (map (λ x. agg_value.Sum x)) is ∙ map-put (λ x. agg_value.Sum x) wrapped_sum wrapped_agg_sum (λ a b. refl) items n sum

pub least_put : (items items' : List ℤ) (n : ℕ) (value : ℤ) → items' ≡ put int_min items n value
    → map (λ x. agg_value.Least (Some x)) items' ≡ put wrapped_agg_sum (map (λ x. agg_value.Least (Some x)) items) n (agg_value.Least (Some value))
least_put items items' n value is =
    ap (map (λ x. agg_value.Least (Some x))) is ∙ map-put (λ x. agg_value.Least (Some x)) int_min wrapped_agg_sum (λ a b. refl) items n value

pub greatest_put : (items items' : List ℤ) (n : ℕ) (value : ℤ) → items' ≡ put int_max items n value
    → map (λ x. agg_value.Greatest (Some x)) items' ≡ put wrapped_agg_sum (map (λ x. agg_value.Greatest (Some x)) items) n (agg_value.Greatest (Some value))
greatest_put items items' n value is =
    ap (map (λ x. agg_value.Greatest (Some x))) is ∙ map-put (λ x. agg_value.Greatest (Some x)) int_max wrapped_agg_sum (λ a b. refl) items n value

abbrev pub totals : Func → List AggValue → Totals
totals kind values = record { func = kind; values = values }

-- what is put for many numbers is put as what it stands for
pub map-puts : {A B : Type 0} (f : A → B) (both : A → A → A) (together : B → B → B) → ((a b : A) → f (both a b) ≡ together (f a) (f b))
    → (items : List A) (numbers : List ℕ) (item : ℕ → A) (count : ℕ)
    → map f (puts both items numbers item count) ≡ puts together (map f items) numbers (λ k. f (item k)) count
map-puts f both together same items numbers item zero = refl
map-puts f both together same items numbers item (suc count) =
    map-put f both together same (puts both items numbers item count) (slice_index numbers count) (item count)
    ∙ ap (λ l. put together l (slice_index numbers count) (f (item count))) (map-puts f both together same items numbers item count)

-- items for known numbers change no count
pub length-puts : {A : Type 0} (both : A → A → A) (items : List A) (numbers : List ℕ) (item : ℕ → A) (count : ℕ)
    → ((k : ℕ) → k < count → slice_index numbers k < length items) → length (puts both items numbers item count) ≡ length items
length-puts both items numbers item zero known = refl
length-puts both items numbers item (suc count) known =
    let before = length-puts both items numbers item count (λ k lt. known k (omega arith)) in
    let here : slice_index numbers count < length (puts both items numbers item count) = rw before (known count (omega arith)) in
    ap length (put_known both (puts both items numbers item count) (slice_index numbers count) (item count) here) ∙ length-set _ _ _ ∙ before

-- one item more for a known number
pub puts_more : {A : Type 0} (both : A → A → A) (items now : List A) (numbers : List ℕ) (item : ℕ → A) (i : ℕ) → now ≡ puts both items numbers item i
    → slice_index numbers i < length now
    → set now (slice_index numbers i) (both (slice_index_or now (slice_index numbers i) (item i)) (item i)) ≡ puts both items numbers item (i + 1)
puts_more both items now numbers item i is lt =
    rw add-one (sym (put_known both now (slice_index numbers i) (item i) lt) ∙ ap (λ l. put both l (slice_index numbers i) (item i)) is)

-- a column's totals after items were put for many numbers, where the items stand for totals
pub column_puts : {A : Type 0} (f : A → AggValue) (both : A → A → A) → ((a b : A) → f (both a b) ≡ wrapped_agg_sum (f a) (f b)) → (kind : Func)
    (items new after : List A) (numbers : List ℕ) (value : ℕ → A) → after ≡ new → new ≡ puts both items numbers value (length numbers)
    → totals kind (map f after) ≡ totals kind (puts wrapped_agg_sum (map f items) numbers (λ k. f (value k)) (length numbers))
column_puts f both same kind items new after numbers value is are =
    ap (totals kind) (ap (map f) (is ∙ are) ∙ map-puts f both wrapped_agg_sum same items numbers value (length numbers))
