-- Rows across columns that are made number by number, and the texts of tables of such rows.
use Rattle.std.proofs.Common.{◌≡◌, ℕ, zero, suc, ◌+◌, ◌*◌, ◌<◌, ◌≤◌, ℤ, pos, List, [], ◌∷◌, ◌++◌, FitsSigned, map, of_z, to_z, w64, refl, sym, ap, ◌∙◌}
use Rattle.std.proofs.Common.{arith, add-one}
use Rattle.std.specs.Global.{Vec}
use Rattle.std.proofs.lemmas.Int.{to_z-of_z}
use Rattle.col_table.specs.Columns.{row_across, rows_across, values_of}
use Rattle.col_table.specs.NamedRows.{NamedRows}
use Rattle.csv_tables.specs.Writing.{line_text, table_text}
use Rattle.csv_tables.proofs.Lines.{text_more}
use Rattle.load_gen.specs.Draws.{draw, each_below, next_state, state_after}
use Rattle.load_gen.specs.Tables.{row_of_t, row_of_u}
use Rattle.load_gen.proofs.DrawsLemmas.{each_below-more, each_below-zero, get_or-each_below, state_after-after, state_after-more}

-- the columns that are made so
abbrev pub columns_below : ℕ → List (ℕ → ℤ) → List (List ℤ)
columns_below count makes = map (each_below count) makes

-- the row at a place
abbrev pub row_made : List (ℕ → ℤ) → ℕ → List ℤ
row_made makes place = map (λ make. make place) makes

row_across-columns_below : (count place : ℕ) (makes : List (ℕ → ℤ)) → place < count → row_across (columns_below count makes) place ≡ row_made makes place
row_across-columns_below count place [] before = refl
row_across-columns_below count place (make ∷ makes) before =
    ap (λ first. first ∷ row_across (columns_below count makes) place) (get_or-each_below count make place (pos 0) before)
    ∙ ap (λ rest. make place ∷ rest) (row_across-columns_below count place makes before)

pub rows_across-columns_below : (count n : ℕ) (makes : List (ℕ → ℤ)) → n ≤ count → rows_across (columns_below count makes) n ≡ each_below n (row_made makes)
rows_across-columns_below count zero makes within = sym (each_below-zero (row_made makes))
rows_across-columns_below count (suc n) makes within =
    ap (λ rows. rows ++ row_across (columns_below count makes) n ∷ []) (rows_across-columns_below count n makes (omega arith))
    ∙ ap (λ row. each_below n (row_made makes) ++ row ∷ []) (row_across-columns_below count n makes (omega arith))
    ∙ sym (each_below-more n (row_made makes))
    ∙ ap (λ m. each_below m (row_made makes)) (add-one n)

-- lists of the same names
pub same_two : {A : Type 0} (items : List A) (a b c d : A) → items ≡ a ∷ b ∷ [] → a ≡ c → b ≡ d → items ≡ c ∷ d ∷ []
same_two items a b c d are one two = cc

pub same_three : {A : Type 0} (items : List A) (a b c d e f : A) → items ≡ a ∷ b ∷ c ∷ [] → a ≡ d → b ≡ e → c ≡ f → items ≡ d ∷ e ∷ f ∷ []
same_three items a b c d e f are one two three = cc

-- a table of such columns
abbrev pub named_rows : List (List ℕ) → List (List ℤ) → NamedRows
named_rows names rows = record { names = names; rows = rows }

pub made_of_columns : (names wanted : List (List ℕ)) (columns : List (Vec ℤ)) (count : ℕ) (makes : List (ℕ → ℤ)) → names ≡ wanted
    → values_of columns ≡ columns_below count makes
    → named_rows names (rows_across (values_of columns) count) ≡ named_rows wanted (each_below count (row_made makes))
made_of_columns names wanted columns count makes named values =
    ap (λ names. named_rows names (rows_across (values_of columns) count)) named
    ∙ ap (named_rows wanted) (ap (λ values. rows_across values count) values ∙ rows_across-columns_below count count makes (omega arith))

-- one more value of a column
pub pushed_more : (count : ℕ) (made : ℕ → ℤ) (old new : List ℤ) (value : ℤ) → new ≡ old ++ to_z w64 (of_z w64 value) ∷ [] → FitsSigned w64 (made count)
    → old ≡ each_below count made → value ≡ made count → new ≡ each_below (count + 1) made
pushed_more count made old new value push fits before here =
    push
    ∙ ap (λ value. old ++ to_z w64 (of_z w64 value) ∷ []) here
    ∙ ap (λ last. old ++ last ∷ []) (to_z-of_z w64 (made count) fits)
    ∙ ap (λ values. values ++ made count ∷ []) before
    ∙ sym (each_below-more count made)

-- ---- rows and texts

-- The first row that is drawn after the rows before a place is the row at that place. Then the draws stand before the next one.
pub drawn_of_t : (state row before after : ℕ) (drawn : List ℤ) → before ≡ state_after state (3 * row) → drawn ≡ row_of_t before 0
    → after ≡ state_after before 3 → (drawn ≡ row_of_t state row) × (after ≡ state_after state (3 * (row + 1)))
drawn_of_t state row before after drawn is first next =
    let at : (place : ℕ) → state_after (state_after state (3 * row)) place ≡ state_after state (3 * row + place) = state_after-after state (3 * row) in
    let all : 3 * row + 3 ≡ 3 * (row + 1) = omega arith in (
      first ∙ ap (λ state. row_of_t state 0) is ∙ rw (at 1, at 2, at 3) refl,
      next ∙ ap (λ state. state_after state 3) is ∙ at 3 ∙ ap (state_after state) all,
    )

pub drawn_of_u : (state row before after : ℕ) (drawn : List ℤ) → before ≡ state_after state row → drawn ≡ pos row ∷ pos (draw before 1 100) ∷ []
    → after ≡ next_state before → (drawn ≡ row_of_u state row) × (after ≡ state_after state (row + 1))
drawn_of_u state row before after drawn is first next = (
  first ∙ ap (λ state. pos row ∷ pos (draw state 1 100) ∷ []) is ∙ rw (state_after-after state row 1) refl,
  next ∙ ap next_state is ∙ sym (state_after-more state row),
)

-- the text of a table of one row more
pub text_made : (names : List (List ℕ)) (count : ℕ) (made : ℕ → List ℤ) (old new : List ℕ) (row : List ℤ) → new ≡ old ++ line_text row
    → old ≡ table_text (named_rows names (each_below count made)) → row ≡ made count → new ≡ table_text (named_rows names (each_below (count + 1) made))
text_made names count made old new row push before here =
    push
    ∙ ap (λ text. text ++ line_text row) before
    ∙ ap (λ row. table_text (named_rows names (each_below count made)) ++ line_text row) here
    ∙ sym (text_more names (each_below count made) (made count))
    ∙ ap (λ rows. table_text (named_rows names rows)) (sym (each_below-more count made))
