-- The tables that are drawn load from their texts.
use Rattle.std.proofs.Common.{true, ◌≡◌, ◌≢◌, ℕ, zero, suc, ◌+◌, ◌*◌, ◌<◌, ◌≤◌, ℤ, pos, List, [], ◌∷◌, All, FitsSigned, slice_index, length, codes, refl}
use Rattle.std.proofs.Common.{Result, Ok, Err, IfErr, sym, ◌∙◌, arith}
use Rattle.std.specs.Prelude.{IsOk}
use Rattle.std.specs.Int.{w64}
use Rattle.std.proofs.lemmas.Int.{ints}
use Rattle.std.proofs.lemmas.Str.{IsUtf8-from_ascii}
use Rattle.std.proofs.lemmas.List.Elements.{All-from_recursion}
use Rattle.col_table.specs.Name.{IsName, is_name}
use Rattle.col_table.specs.NamedRows.{AllDiffer, IsHeading, IsTable, name_at}
use Rattle.col_table.specs.Refusals.{RefusesHeading}
use Rattle.col_table.specs.declared.table.ShapeRefusal.{ShapeRefusal}
use Rattle.col_table.specs.declared.table.ShapeRefusal.TheVariants.{NoColumns, OutOfMemory, TooManyColumns, TwiceNamed}
use Rattle.col_table.specs.declared.table.TheConstants.{MAX_ROWS}
use Rattle.csv_tables.specs.Loading.{LoadsTable}
use Rattle.csv_tables.specs.Writing.{table_text}
use Rattle.csv_tables.proofs.Texts.{text_loads}
use Rattle.load_gen.specs.Draws.{each_below, state_after}
use Rattle.load_gen.specs.Tables.{row_of_t, row_of_u, table_t, table_u}
use Rattle.load_gen.proofs.DrawsLemmas.{All-each_below, head_same, length-each_below}
use Rattle.load_gen.proofs.ScriptLemmas.{fits-draw, fits-signed}

-- a name of one letter
letter_is_ascii : (letter i : ℕ) → letter < 0x7f → slice_index (letter ∷ []) i < 128
letter_is_ascii letter zero low = omega arith
letter_is_ascii letter (suc i) low = omega arith

IsName-letter : (letter : ℕ) → letter < 0x7f → is_name (letter ∷ []) ≡ true → IsName (letter ∷ [])
IsName-letter letter low plain = record {
  text = IsUtf8-from_ascii (letter ∷ []) (λ i. letter_is_ascii letter i low);
  is = plain;
}

pub no_mark-k : (rest : List ℕ) → codes "k" ≡ 0xEF ∷ 0xBB ∷ 0xBF ∷ rest → ⊥
no_mark-k rest same = omega (arith, head_same 107 0xEF [] (0xBB ∷ 0xBF ∷ rest) same)

-- a table of rows that are made one by one
IsTable-made : (names : List (List ℕ)) (count : ℕ) (made : ℕ → List ℤ) → IsHeading names → count ≤ MAX_ROWS
    → ((row : ℕ) → length (made row) ≡ length names) → IsTable (record { names = names; rows = each_below count made })
IsTable-made names count made heading few widths = record {
  heading = heading;
  widths = All-each_below (λ row. length row ≡ length names) count made (λ row before. widths row);
  few = omega (arith, length-each_below count made);
}

-- and loads from its text, if its rows fit and its first name is `k`
table-loads : (names : List (List ℕ)) (count : ℕ) (made : ℕ → List ℤ) → IsHeading names → All IsName names → name_at names 0 ≡ codes "k" → count ≤ MAX_ROWS
    → ((row : ℕ) → length (made row) ≡ length names) → ((row : ℕ) → row < count → All (FitsSigned w64) (made row))
    → LoadsTable (table_text (record { names = names; rows = each_below count made })) (record { names = names; rows = each_below count made })
table-loads names count made heading legal first few widths fit =
    text_loads names (each_below count made) (IsTable-made names count made heading few widths) legal (All-each_below (All (FitsSigned w64)) count made fit)
    (λ (rest, same). no_mark-k rest (sym first ∙ same))

-- names of one letter differ if their letters do
other_letter : (letter other : ℕ) → letter ≢ other → letter ∷ [] ≡ other ∷ [] → ⊥
other_letter letter other differ same = differ (head_same letter other [] [] same)

t-differ : AllDiffer (codes "k" ∷ codes "g" ∷ codes "v" ∷ [])
t-differ zero within (earlier, before, same) = omega arith
t-differ (suc zero) within (zero, before, same) = other_letter 107 103 (λ e. omega arith) same
t-differ (suc zero) within (suc earlier, before, same) = omega arith
t-differ (suc (suc zero)) within (zero, before, same) = other_letter 107 118 (λ e. omega arith) same
t-differ (suc (suc zero)) within (suc zero, before, same) = other_letter 103 118 (λ e. omega arith) same
t-differ (suc (suc zero)) within (suc (suc earlier), before, same) = omega arith
t-differ (suc (suc (suc place))) within stood = omega arith

u-differ : AllDiffer (codes "k" ∷ codes "w" ∷ [])
u-differ zero within (earlier, before, same) = omega arith
u-differ (suc zero) within (zero, before, same) = other_letter 107 119 (λ e. omega arith) same
u-differ (suc zero) within (suc earlier, before, same) = omega arith
u-differ (suc (suc place)) within stood = omega arith

pub t-heading : IsHeading (codes "k" ∷ codes "g" ∷ codes "v" ∷ [])
t-heading = record { some = omega arith; few = omega arith; differ = t-differ }

pub u-heading : IsHeading (codes "k" ∷ codes "w" ∷ [])
u-heading = record { some = omega arith; few = omega arith; differ = u-differ }

-- such names are never refused
pub heading-accepted : {A : Type 0} (names : List (List ℕ)) (made : Result A ShapeRefusal) → IsHeading names → IfErr made (RefusesHeading names) → IsOk made
heading-accepted names (Ok table) heading refused = refl
heading-accepted names (Err NoColumns) heading refused = absurd (omega (arith, heading.some, refused))
heading-accepted names (Err TooManyColumns) heading refused = absurd (omega (arith, heading.few, refused))
heading-accepted names (Err (TwiceNamed place)) heading refused = absurd (heading.differ place refused.1.within refused.1.twice)
heading-accepted names (Err OutOfMemory) heading refused = absurd refused

pub table_t-loads : (state count : ℕ) → count ≤ MAX_ROWS → LoadsTable (table_text (table_t state count)) (table_t state count)
table_t-loads state count few =
    let Fits : ℤ → Type 0 = FitsSigned w64 in
    let names = (table_t state count).names in
    table-loads names count (row_of_t state) t-heading
    (All-from_recursion IsName names (
      IsName-letter 107 (omega arith) refl,
      (IsName-letter 103 (omega arith) refl, (IsName-letter 118 (omega arith) refl, tt)),
    ))
    refl few (λ row. refl)
    (λ row before.
    All-from_recursion Fits (row_of_t state row) (
      fits-draw (state_after state (3 * row + 1)) 1000 (omega arith) (omega arith),
      (fits-draw (state_after state (3 * row + 2)) 16 (omega arith) (omega arith), (fits-signed (state_after state (3 * row + 3)), tt)),
    ))

pub fits-row : (row count : ℕ) → row < count → count ≤ MAX_ROWS → FitsSigned w64 (pos row)
fits-row row count before few = omega (arith, ints)

pub table_u-loads : (state count : ℕ) → count ≤ MAX_ROWS → LoadsTable (table_text (table_u state count)) (table_u state count)
table_u-loads state count few =
    let Fits : ℤ → Type 0 = FitsSigned w64 in
    let names = (table_u state count).names in
    table-loads names count (row_of_u state) u-heading
    (All-from_recursion IsName names (IsName-letter 107 (omega arith) refl, (IsName-letter 119 (omega arith) refl, tt)))
    refl few (λ row. refl)
    (λ row before.
    All-from_recursion Fits (row_of_u state row) (
      fits-row row count before few,
      (fits-draw (state_after state (row + 1)) 100 (omega arith) (omega arith), tt),
    ))
