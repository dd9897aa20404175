-- The totals of one aggregate as the code keeps them, by the number of the group. Sums wrap.
use Rattle.std.specs.Prelude.{◌≡◌, ℕ, zero, suc, ℤ, pos, ◌+◌, ◌+ℤ◌, ◌%◌, ◌^◌, ◌<◌, ◌≤◌, nat_lt}
use Rattle.std.specs.Prelude.{List, [], ◌∷◌, ◌++◌, Some, map, length, slice_set, slice_index}
use Rattle.std.specs.Prelude.{slice_index_or, vec_len, vec_capacity, if◌then◌else◌}
use Rattle.std.specs.Int.{w128, int_wrap}
use Rattle.plan_ast.specs.Aggregates.{agg_sum}
use Rattle.plan_ast.specs.Answer.{aggregate}
use Rattle.plan_ast.specs.declared.queries.Func.{Func}
use Rattle.plan_ast.specs.declared.queries.Func.TheVariants as func
use Rattle.plan_ast.specs.declared.answers.AggValue.{AggValue}
use Rattle.plan_ast.specs.declared.answers.AggValue.TheVariants as agg_value
use Rattle.build_sides.specs.GroupTotals.{Totals, nothing_of}
use Rattle.build_sides.specs.declared.columns.Column.{Column}
use Rattle.build_sides.specs.declared.columns.Column.TheVariants.{Count, Sum, Least, Greatest}

-- an item for this number, together with the one that is there, or as the next one
abbrev pub put : {A : Type 0} → (A → A → A) → List A → ℕ → A → List A
put both items number item =
    if nat_lt number (length items)
    then slice_set items number (both (slice_index_or items number item) item)
    else items ++ item ∷ []

-- items for some numbers, one after another: the first so many, as `put` puts each
abbrev pub puts : {A : Type 0} → (A → A → A) → List A → List ℕ → (ℕ → A) → ℕ → List A
puts both items numbers item zero = items
puts both items numbers item (suc count) =
    put both (puts both items numbers item count) (slice_index numbers count) (item count)

abbrev pub count_sum : ℕ → ℕ → ℕ
count_sum a b = (a + b) % 2 ^ 64

abbrev pub wrapped_sum : ℤ → ℤ → ℤ
wrapped_sum a b = int_wrap w128 (a +ℤ b)

-- a total as its type keeps it: a count in 64 bits, a sum in 128
abbrev pub wrapped : AggValue → AggValue
wrapped (agg_value.Count count) = agg_value.Count (count % 2 ^ 64)
wrapped (agg_value.Sum sum) = agg_value.Sum (int_wrap w128 sum)
wrapped (agg_value.Least least) = agg_value.Least least
wrapped (agg_value.Greatest greatest) = agg_value.Greatest greatest

-- two totals of one aggregate together
abbrev pub wrapped_agg_sum : AggValue → AggValue → AggValue
wrapped_agg_sum a b = wrapped (agg_sum a b)

abbrev pub func_of : Column → Func
func_of (Count counts) = func.Count
func_of (Sum sums) = func.Sum
func_of (Least values) = func.Min
func_of (Greatest values) = func.Max

abbrev pub values_of : Column → List AggValue
values_of (Count counts) = map (λ n. agg_value.Count n) counts.items
values_of (Sum sums) = map (λ x. agg_value.Sum x) sums.items
values_of (Least values) = map (λ x. agg_value.Least (Some x)) values.items
values_of (Greatest values) = map (λ x. agg_value.Greatest (Some x)) values.items

abbrev pub totals_of : Column → Totals
totals_of column = record { func = func_of column; values = values_of column }

-- there is room for one more
abbrev pub HasRoom : Column → Type 0
HasRoom (Count counts) = vec_len counts < vec_capacity counts
HasRoom (Sum sums) = vec_len sums < vec_capacity sums
HasRoom (Least values) = vec_len values < vec_capacity values
HasRoom (Greatest values) = vec_len values < vec_capacity values

-- there is room for a group with this number
abbrev pub HasRoomFor : ℕ → Column → Type 0
HasRoomFor number column = length (values_of column) ≤ number → HasRoom column

-- a total for the group with this number
abbrev pub with_total : Totals → ℕ → AggValue → Totals
with_total column number total =
    record { func = column.func; values = put wrapped_agg_sum column.values number total }

-- a value was folded into the total of the group with this number
abbrev pub FoldsValue : ℕ → ℤ → Column → Column → Type 0
FoldsValue number value old new =
    totals_of new ≡ with_total (totals_of old) number (aggregate (func_of old) (value ∷ []))

-- the first so many values, one after another, each folded into the total of the group with its
-- number
abbrev pub with_values : Totals → List ℕ → (ℕ → ℤ) → ℕ → Totals
with_values column numbers value count = record {
  func = column.func;
  values = puts wrapped_agg_sum column.values numbers
      (λ k. aggregate column.func (value k ∷ [])) count;
}

-- values were folded, each into the total of the group with its number
pub record FoldsValues (numbers : List ℕ) (value : ℕ → ℤ) (old new : Column) : Type 0 where
  pub is : totals_of new ≡ with_values (totals_of old) numbers value (length numbers)

-- the values of a column, row by row
abbrev pub value_by : List ℤ → List ℕ → ℕ → ℤ
value_by column rows k = slice_index_or column (slice_index rows k) (pos 0)

-- another column's total of the group `from` was added to that of the group with this number
pub record AddsTotal (number from : ℕ) (other old new : Column) : Type 0 where
  pub is : totals_of new ≡ with_total (totals_of old) number
      (slice_index_or (values_of other) from (nothing_of (totals_of other)))

-- a total of a group, which has a row
abbrev pub IsTotal : Func → AggValue → Type 0
IsTotal func.Count (agg_value.Count count) = count < 2 ^ 64
IsTotal func.Sum (agg_value.Sum sum) = Unit {0}
IsTotal func.Min (agg_value.Least (Some value)) = Unit {0}
IsTotal func.Max (agg_value.Greatest (Some value)) = Unit {0}
IsTotal _ _ = ⊥
