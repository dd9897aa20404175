-- The text of a row of values, value by value.
use Rattle.std.proofs.Common.{◌≡◌, ◌==◌, ℕ, suc, ℤ, pos, negsuc, ◌<◌, ◌+◌, ◌++◌, ◌∷◌, false, List, [], All, FitsSigned, length, map, get_or, take}
use Rattle.std.proofs.Common.{ap, append_assoc, arith, refl, subst, sym, ◌∙◌}
use Rattle.std.specs.Char.{digit_value}
use Rattle.std.specs.Fmt.{signed_decimal}
use Rattle.std.specs.Int.{w64}
use Rattle.std.specs.List.{flat_map, list_any}
use Rattle.std.specs.Str.Parse.{AllDigits}
use Rattle.std.proofs.lemmas.Bool.{ne_eqb}
use Rattle.std.proofs.lemmas.Fmt.{decimal_is_IsNumeral}
use Rattle.std.proofs.lemmas.Int.{ints}
use Rattle.std.proofs.lemmas.List.{flat_map_more, length-map, length-take-le, map-append, take_more}
use Rattle.std.proofs.lemmas.List.Elements.{All-head}
use Rattle.csv.specs.Writing.{default_writer, field_text, is_blank, needs_byte, next_sep, row_body, row_text}
use Rattle.csv.proofs.WriteFacts.{row-more}
use Rattle.csv_tables.specs.Writing.{line_text, table_text}
use Rattle.csv_tables.proofs.Texts.{plain_text}

-- a digit is no mark
other_than : (mark digit : ℕ) → digit_value digit < 10 → ¬ (digit_value mark < 10) → (digit == mark) ≡ false
other_than mark digit is not = ne_eqb digit mark (λ same. absurd (not (subst (λ byte. digit_value byte < 10) same is)))

digit_unmarked : (digit : ℕ) → digit_value digit < 10 → needs_byte default_writer digit ≡ false
digit_unmarked digit is =
    rw (
      other_than 44 digit is (λ h. omega arith),
      other_than 34 digit is (λ h. omega arith),
      other_than 13 digit is (λ h. omega arith),
      other_than 10 digit is (λ h. omega arith),
    ) refl

digits_unmarked : (digits : List ℕ) → AllDigits 10 digits → list_any (needs_byte default_writer) digits ≡ false
digits_unmarked [] all = refl
digits_unmarked (digit ∷ rest) all = rw (digit_unmarked digit all.0) (digits_unmarked rest all.1)

-- the decimal text of a value has a byte, and no mark
record IsPlainText (text : List ℕ) : Type 0 where
  some : 0 < length text
  unmarked : list_any (needs_byte default_writer) text ≡ false

value_plain : (z : ℤ) → FitsSigned w64 z → IsPlainText (signed_decimal z)
value_plain (pos n) fits =
    let (numeral, value) = decimal_is_IsNumeral n (omega (arith, ints, fits)) in
    record { some = numeral.0; unmarked = digits_unmarked _ numeral.1 }
value_plain (negsuc n) fits =
    let (numeral, value) = decimal_is_IsNumeral (suc n) (omega (arith, ints, fits)) in
    record { some = omega arith; unmarked = digits_unmarked _ numeral.1 }

value_text : (z : ℤ) → FitsSigned w64 z → field_text default_writer (signed_decimal z) ≡ signed_decimal z
value_text z fits = plain_text (signed_decimal z) (value_plain z fits).unmarked

-- one value more in a row
row_more : (values : List ℤ) (z : ℤ) → FitsSigned w64 z → row_body default_writer (map signed_decimal (values ++ z ∷ []))
    ≡ row_body default_writer (map signed_decimal values) ++ (next_sep default_writer (length values) ++ signed_decimal z)
row_more values z fits =
    let before = row_body default_writer (map signed_decimal values) in
    ap (row_body default_writer) (map-append signed_decimal values (z ∷ []))
    ∙ row-more default_writer (map signed_decimal values) (signed_decimal z)
    ∙ ap (λ count. before ++ (next_sep default_writer count ++ field_text default_writer (signed_decimal z))) (length-map values signed_decimal)
    ∙ ap (λ text. before ++ (next_sep default_writer (length values) ++ text)) (value_text z fits)

-- a row of values shows a byte, so it ends with its line's end alone
not_blank : (values : List ℤ) → 0 < length values → All (FitsSigned w64) values → is_blank default_writer (map signed_decimal values) ≡ false
unfolding is_blank
not_blank [] some fits = absurd (omega arith)
not_blank (z ∷ []) some fits =
    let here = All-head (FitsSigned w64) z [] fits in
    ap (λ text. length text == 0) (value_text z here)
    ∙ ne_eqb (length (signed_decimal z)) 0 (λ none. absurd (omega (arith, none, (value_plain z here).some)))
not_blank (z ∷ y ∷ rest) some fits = refl

row_ended : (values : List ℤ) → 0 < length values → All (FitsSigned w64) values
    → row_text default_writer (map signed_decimal values) ≡ row_body default_writer (map signed_decimal values) ++ 10 ∷ []
row_ended values some fits = rw (not_blank values some fits) refl

-- a text with the first values of a row, and then with the next one
pub value_pushed : (old before new : List ℕ) (values : List ℤ) (col : ℕ) → col < length values → FitsSigned w64 (get_or values col (pos 0))
    → before ≡ old ++ row_body default_writer (map signed_decimal (take col values))
    → new ≡ (before ++ next_sep default_writer col) ++ signed_decimal (get_or values col (pos 0))
    → new ≡ old ++ row_body default_writer (map signed_decimal (take (col + 1) values))
value_pushed old before new values col within fits was pushed =
    let front = take col values in
    let z = get_or values col (pos 0) in
    let line = row_body default_writer (map signed_decimal front) in
    let count : length front ≡ col = length-take-le col values (omega arith) in
    pushed
    ∙ append_assoc before (next_sep default_writer col) (signed_decimal z)
    ∙ ap (λ text. text ++ (next_sep default_writer col ++ signed_decimal z)) was
    ∙ append_assoc old line (next_sep default_writer col ++ signed_decimal z)
    ∙ ap (λ count. old ++ (line ++ (next_sep default_writer count ++ signed_decimal z))) (sym count)
    ∙ ap (λ line. old ++ line) (sym (row_more front z fits))
    ∙ ap (λ values. old ++ row_body default_writer (map signed_decimal values)) (sym (take_more values col (pos 0) within))

-- and then with the end of the line
pub row_pushed : (old before new : List ℕ) (values : List ℤ) → 0 < length values → All (FitsSigned w64) values
    → before ≡ old ++ row_body default_writer (map signed_decimal values) → new ≡ before ++ 10 ∷ []
    → new ≡ old ++ line_text values
row_pushed old before new values some fits was pushed =
    let line = row_body default_writer (map signed_decimal values) in
    pushed
    ∙ ap (λ text. text ++ 10 ∷ []) was
    ∙ append_assoc old line (10 ∷ [])
    ∙ ap (λ line. old ++ line) (sym (row_ended values some fits))

-- the text of a table of one row more
pub text_more : (names : List (List ℕ)) (rows : List (List ℤ)) (row : List ℤ)
    → table_text (record { names = names; rows = rows ++ row ∷ [] }) ≡ table_text (record { names = names; rows = rows }) ++ line_text row
text_more names rows row =
    let line : List (List ℕ) → List ℕ = row_text default_writer in
    let texts : List (List ℤ) → List (List (List ℕ)) = map (map signed_decimal) in
    ap (λ lines. line names ++ flat_map line lines) (map-append (map signed_decimal) rows (row ∷ []))
    ∙ sym (flat_map_more line (line names) (texts rows) (map signed_decimal row))
