-- Rows that lie across columns.
use Rattle.std.proofs.Common.{◌≡◌, ℕ, zero, suc, ◌<◌, ◌≤◌, ℤ, pos, List, [], ◌∷◌, ◌++◌, All, length, map, take, get_or, refl, sym, ap, ◌∙◌, inl, inr}
use Rattle.std.proofs.Common.{arith, add-one}
use Rattle.std.proofs.Math.Seq.{take-suc}
use Rattle.std.proofs.lemmas.Bool.{cases_lt}
use Rattle.std.proofs.lemmas.List.{get_or-map, get_or_append_left, get_or_default, get_or_push, length_push, length-map, map-append, same_lists}
use Rattle.col_table.specs.Columns.{IsExtended, row_across, rows_across}
use Rattle.col_table.specs.NamedRows.{value_in}

-- there are as many rows as places
pub length-rows_across : (columns : List (List ℤ)) (n : ℕ) → length (rows_across columns n) ≡ n
length-rows_across columns zero = refl
length-rows_across columns (suc n) = rw (length_push, length-rows_across columns n) (add-one n)

-- the row at a place
pub get_or-rows_across : (columns : List (List ℤ)) (n place : ℕ) (d : List ℤ) → place < n → get_or (rows_across columns n) place d ≡ row_across columns place
get_or-rows_across columns zero place d h = absurd (omega arith)
get_or-rows_across columns (suc n) place d h =
    let count = length-rows_across columns n in
    elim (cases_lt place n) [
      | inl before ↦
          get_or_append_left (rows_across columns n) (row_across columns n ∷ []) d place (omega arith) ∙ get_or-rows_across columns n place d before
      | inr after ↦
          let last : place ≡ n = omega arith in
          rw last (get_or_push (rows_across columns n) (row_across columns n) d n count)
    ]

-- each row has one value a column
pub widths-rows_across : (columns : List (List ℤ)) (n width : ℕ) → length columns ≡ width → All (λ row. length row ≡ width) (rows_across columns n)
widths-rows_across columns n width h = λ place d within.
    let count = length-rows_across columns n in
    rw (get_or-rows_across columns n place d (omega arith)) (length-map columns (λ column. value_in column place) ∙ h)

-- the value of a row is that of the column
pub value_in-row_across : (columns : List (List ℤ)) (column place : ℕ) → column < length columns → value_in (row_across columns place) column ≡
    value_in (get_or columns column []) place
value_in-row_across columns column place h = get_or-map (λ values. value_in values place) columns column [] (pos 0) h

-- the values of a column, row by row
pub column-rows_across : (columns : List (List ℤ)) (column n : ℕ) → column < length columns → n ≤ length (get_or columns column [])
    → map (λ row. value_in row column) (rows_across columns n) ≡ take n (get_or columns column [])
column-rows_across columns column zero h k = refl
column-rows_across columns column (suc n) h k =
    map-append (λ row. value_in row column) (rows_across columns n) (row_across columns n ∷ [])
    ∙ rw (column-rows_across columns column n h (omega arith), value_in-row_across columns column n h)
    (sym (take-suc (get_or columns column []) n (pos 0) (omega arith)))

-- rows that agree at each place
same-rows_across : (columns others : List (List ℤ)) (n : ℕ) → ((place : ℕ) → place < n → row_across columns place ≡ row_across others place) →
    rows_across columns n ≡ rows_across others n
same-rows_across columns others zero h = refl
same-rows_across columns others (suc n) h =
    rw (same-rows_across columns others n (λ place before. h place (omega arith)), h n (omega arith)) refl

-- a row before the end stays as it was
earlier-IsExtended : (old new : List (List ℤ)) (row : List ℤ) (n place : ℕ) → IsExtended old new row →
    ((column : ℕ) → column < length old → length (get_or old column []) ≡ n)
    → place < n → row_across new place ≡ row_across old place
earlier-IsExtended old new row n place e heights before =
    same_lists (row_across new place) (row_across old place)
    (length-map new (λ values. value_in values place) ∙ e.count ∙ sym (length-map old (λ values. value_in values place))) (λ column d within.
    let inside_new : column < length new = rw length-map at within in
    let inside : column < length old = omega (arith, e.count) in
    get_or-map (λ values. value_in values place) new column [] d inside_new
    ∙ ap (λ values. value_in values place) (e.each column inside)
    ∙ get_or_append_left (get_or old column []) (value_in row column ∷ []) (pos 0) place (omega (arith, heights column inside))
    ∙ sym (get_or-map (λ values. value_in values place) old column [] d inside))

-- the row at the end is the one that was added
last-IsExtended : (old new : List (List ℤ)) (row : List ℤ) (n : ℕ) → IsExtended old new row →
    ((column : ℕ) → column < length old → length (get_or old column []) ≡ n)
    → length row ≡ length old → row_across new n ≡ row
last-IsExtended old new row n e heights width =
    same_lists (row_across new n) row (length-map new (λ values. value_in values n) ∙ e.count ∙ sym width) (λ column d within.
    let inside_new : column < length new = rw length-map at within in
    let inside : column < length old = omega (arith, e.count) in
    get_or-map (λ values. value_in values n) new column [] d inside_new
    ∙ ap (λ values. value_in values n) (e.each column inside)
    ∙ get_or_push (get_or old column []) (value_in row column) (pos 0) n (heights column inside)
    ∙ get_or_default row column (pos 0) d (omega arith))

-- the rows after one more value of each column
pub rows_across-IsExtended : (old new : List (List ℤ)) (row : List ℤ) (n : ℕ) → IsExtended old new row →
    ((column : ℕ) → column < length old → length (get_or old column []) ≡ n)
    → length row ≡ length old → rows_across new (suc n) ≡ rows_across old n ++ row ∷ []
rows_across-IsExtended old new row n e heights width =
    rw (
      same-rows_across new old n (λ place before. earlier-IsExtended old new row n place e heights before),
      last-IsExtended old new row n e heights
          width,
    ) refl
