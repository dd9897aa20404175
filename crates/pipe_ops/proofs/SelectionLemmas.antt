-- The rows of a range that pass.
use Rattle.std.proofs.Common.{◌≡◌, ℕ, ◌+◌, ◌<◌, ◌≤◌, List, [], ◌∷◌, ◌++◌, ◌&&◌, Bool, true, false, cond, drop, filter, get_or, length, set, take, refl}
use Rattle.std.proofs.Common.{sym, ap, ◌∙◌, add-zero, append-nil, arith, ℤ, pos, w64, to_z, of_z}
use Rattle.std.proofs.lemmas.Int.{to_z-of_z}
use Rattle.std.proofs.lemmas.List.{get_or-drop, length-append, take-set, take_more_set}
use Rattle.std.proofs.lemmas.List.Elements.{filter-append, filter_agree}
use mir.Val.{SFits, bool_byte}
use Rattle.std.proofs.lemmas.List.Folds.{list_all_more}
use Rattle.std.proofs.Math.Bool.{and-true}
use Rattle.col_table.specs.NamedRows.{NamedRows, column_of, value_in}
use Rattle.plan_ast.specs.Answer.{compares}
use Rattle.plan_ast.specs.declared.places.FilterAt.{FilterAt}
use Rattle.plan_ast.specs.declared.queries.Op.{Op}
use Rattle.pipe_ops.specs.Placed.{passes_at, row_at}
use Rattle.pipe_ops.specs.Selection.{compares_at}
use Rattle.pipe_ops.specs.StagePlaces.{numbers_from}
use Rattle.pipe_ops.proofs.ColumnsLemmas.{column_at}
use Rattle.pipe_ops.proofs.MembersLemmas.{numbers_from-more}

pub at_most_one : (b : Bool) → bool_byte b ≤ 1
at_most_one true = omega arith
at_most_one false = omega arith

-- a comparison of a value of a column, as the code counts it
pub counted : (op : Op) (column : List ℤ) (value : ℤ) (row : ℕ) (passes : Bool) (count : ℕ) → SFits w64 (get_or column row (pos 0))
    → passes ≡ compares op (to_z w64 (of_z w64 (get_or column row (pos 0)))) value → count ≡ bool_byte passes
    → count ≡ bool_byte (compares_at op column value row)
counted op column value row passes count fits compared is =
    is ∙ ap bool_byte (compared ∙ ap (λ v. compares op v value) (to_z-of_z w64 (get_or column row (pos 0)) fits))

-- a number that is written behind those that are kept, and is kept or not
pub keep_more : (b : Bool) (rows : List ℕ) (count row : ℕ) → count < length rows → take (count + bool_byte b) (set rows count row) ≡ take count rows ++
    cond b (row ∷ []) []
keep_more true rows count row short = take_more_set rows count row short
keep_more false rows count row short = ap (λ n. take n (set rows count row)) (add-zero count) ∙ take-set rows count row ∙ sym
    (append-nil (take count rows))

-- one number of a range more
pub filter_from-more : (test : ℕ → Bool) (from n : ℕ) → from ≤ n → filter test (numbers_from from (n + 1)) ≡ filter test (numbers_from from n) ++ cond
    (test n) (n ∷ []) []
filter_from-more test from n low = ap (filter test) (numbers_from-more from n low) ∙ filter-append test (numbers_from from n) (n ∷ [])

kept_length : (b : Bool) (row : ℕ) → length (cond b (row ∷ []) []) ≡ bool_byte b
kept_length true row = refl
kept_length false row = refl

-- and how many there are
pub count_from-more : (test : ℕ → Bool) (from n : ℕ) → from ≤ n
    → length (filter test (numbers_from from (n + 1))) ≡ length (filter test (numbers_from from n)) + bool_byte (test n)
count_from-more test from n low =
    ap length (filter_from-more test from n low) ∙ length-append (filter test (numbers_from from n)) (cond (test n) (n ∷ []) [])
    ∙ ap (λ k. length (filter test (numbers_from from n)) + k) (kept_length (test n) n)

-- where there are none, nothing is written
pub none_selected : (rows found : List ℕ) → 0 ≡ length found → take 0 rows ≡ found
none_selected rows [] none = refl
none_selected rows (x ∷ found) none = absurd (omega arith)

-- lists that agree from a place on agree at it
pub same_at : (xs ys : List ℕ) (i : ℕ) → drop i xs ≡ drop i ys → get_or xs i 0 ≡ get_or ys i 0
same_at xs ys i same =
    ap (λ n. get_or xs n 0) (sym (add-zero i)) ∙ sym (get_or-drop i xs 0 0) ∙ ap (λ l. get_or l 0 0) same ∙ get_or-drop i ys 0 0 ∙ ap
    (λ n. get_or ys n 0) (add-zero i)

-- a test after another
pub filter-both : {X : Type 0} (p q : X → Bool) (xs : List X) → filter q (filter p xs) ≡ filter (λ x. p x && q x) xs
filter-both p q [] = refl
filter-both p q (x ∷ xs) =
    elim (p x) as (λ b. filter q (cond b (x ∷ filter p xs) (filter p xs)) ≡ cond (b && q x) (x ∷ filter (λ x. p x && q x) xs)
    (filter (λ x. p x && q x) xs)) [
      | true ↦ ap (λ l. cond (q x) (x ∷ l) l) (filter-both p q xs)
      | false ↦ filter-both p q xs
    ]

pub all_pass : {X : Type 0} (xs : List X) → filter (λ x. true) xs ≡ xs
all_pass [] = refl
all_pass (x ∷ xs) = ap (λ l. x ∷ l) (all_pass xs)

-- a filter's test of a row is that of its column's value at the row's place
pub test_at : (table : NamedRows) (f : FilterAt) (row : ℕ) → compares_at f.op (column_of table f.column) f.value row ≡ compares f.op
    (value_in (row_at table row) f.column) f.value
test_at table f row = ap (λ v. compares f.op v f.value) (column_at table.rows f.column row)

-- the rows of a column that pass one filter
pub passes_one : (table : NamedRows) (f : FilterAt) (numbers : List ℕ) → filter (compares_at f.op (column_of table f.column) f.value) numbers ≡ filter
    (λ row. passes_at (f ∷ []) (row_at table row)) numbers
passes_one table f numbers =
    filter_agree (compares_at f.op (column_of table f.column) f.value) (λ row. passes_at (f ∷ []) (row_at table row))
    (λ row. test_at table f row ∙ sym (and-true (compares f.op (value_in (row_at table row) f.column) f.value))) numbers

-- the first filter alone
pub first_passes : (table : NamedRows) (filters : List FilterAt) (d : FilterAt) (numbers : List ℕ) → 0 < length filters
    → filter (λ row. passes_at (get_or filters 0 d ∷ []) (row_at table row)) numbers ≡ filter (λ row. passes_at (take 1 filters) (row_at table row)) numbers
first_passes table [] d numbers some = absurd (omega arith)
first_passes table (f ∷ filters) d numbers some = refl

-- one filter more
pub next_passes : (table : NamedRows) (filters : List FilterAt) (i : ℕ) (d : FilterAt) (numbers : List ℕ) → i < length filters
    → filter (λ row. passes_at (get_or filters i d ∷ []) (row_at table row)) (filter (λ row. passes_at (take i filters) (row_at table row)) numbers) ≡ filter
    (λ row. passes_at (take (i + 1) filters) (row_at table row)) numbers
next_passes table filters i d numbers short =
    let f = get_or filters i d in
    let so_far : ℕ → Bool = λ row. passes_at (take i filters) (row_at table row) in
    let one : ℕ → Bool = λ row. passes_at (f ∷ []) (row_at table row) in
    filter-both so_far one numbers
    ∙ filter_agree (λ row. so_far row && one row) (λ row. passes_at (take (i + 1) filters) (row_at table row))
    (λ row. ap (λ b. so_far row && b) (and-true (compares f.op (value_in (row_at table row) f.column) f.value))
    ∙ sym (list_all_more (λ g. compares g.op (value_in (row_at table row) g.column) g.value) filters i d short)) numbers
