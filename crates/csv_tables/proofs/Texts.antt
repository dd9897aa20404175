-- What the text of a table reads as.
use Rattle.std.proofs.Common.{◌≡◌, ◌==◌, ◌&&◌, ℕ, suc, ℤ, pos, negsuc, neg_ℤ, ◌<◌, ◌++◌, ◌∷◌, Bool, true, false, List, [], All, length, map, get_or}
use Rattle.std.proofs.Common.{if◌then◌else◌, ap, arith, inl, inr, refl, subst, sym, ◌∙◌, append_assoc, FitsSigned, nat_eq, take, drop}
use Rattle.std.specs.Fmt.{decimal, signed_decimal}
use Rattle.std.specs.Int.{w64}
use Rattle.std.specs.List.{flat_map, list_any, starts_with}
use Rattle.std.specs.Str.Parse.{AllDigits, IsNumeral, digits_value, starts_with_minus}
use Rattle.std.proofs.lemmas.Bool.{cases_Bool, eqb-true, false≢true, ne_eqb}
use Rattle.std.proofs.lemmas.Int.{ints}
use Rattle.std.proofs.lemmas.List.{length-map, take-append-drop}
use Rattle.std.proofs.lemmas.Slice.Eq.{bytes_eq-Decides}
use Rattle.std.proofs.lemmas.Fmt.{decimal_is_IsNumeral}
use Rattle.std.proofs.lemmas.List.Elements.{All-cons, All-head, All-map, All-tail, All-weaker}
use Rattle.col_table.specs.Mark.{without_mark}
use Rattle.col_table.specs.Name.{IsName}
use Rattle.col_table.specs.NamedRows.{IsTable, NamedRows, name_at, no_rows}
use Rattle.csv.specs.Machine.{next_record}
use Rattle.csv.specs.Reading.{default_config, is_bom, records, strip_bom}
use Rattle.csv.specs.Writing.{default_writer, field_text, fields_text, is_blank, needs_byte, quoted, read_back, row_text}
use Rattle.csv.specs.declared.parser.State.TheVariants as st
use Rattle.csv.proofs.RoundTrip.{read-write}
use Rattle.csv_tables.specs.Loading.{GrowsBy, IsRow, LoadsTable, RecordsStandFor, records_of}
use Rattle.csv_tables.specs.Numbers.{IsValue, number_of}
use Rattle.csv_tables.specs.Writing.{BeginsWithMark, table_text}
use Rattle.csv_tables.proofs.Records.{records-more, records-none}

-- what begins with a digit begins with no minus sign
no_minus : (digits : List ℕ) → IsNumeral 10 digits → starts_with_minus digits ≡ false
no_minus [] numeral = absurd (omega (arith, numeral.0))
no_minus (c ∷ rest) numeral = ne_eqb c 45 (λ same. absurd (omega (arith, subst (λ c. AllDigits 10 (c ∷ rest)) same numeral.1)))

-- the decimal text of a value is that value
pub decimal_value : (z : ℤ) → FitsSigned w64 z → IsValue (signed_decimal z) × (number_of (signed_decimal z) ≡ z)
decimal_value (pos n) fits =
    let (numeral, value) = decimal_is_IsNumeral n (omega (arith, ints, fits)) in
    rw (no_minus (decimal n) numeral) ((numeral, subst (λ m. FitsSigned w64 (pos m)) (sym value) fits), ap pos value)
decimal_value (negsuc n) fits =
    let (numeral, value) = decimal_is_IsNumeral (suc n) (omega (arith, ints, fits)) in
    let same : neg_ℤ (pos (digits_value 10 (decimal (suc n)))) ≡ negsuc n = ap (λ m. neg_ℤ (pos m)) value in
    ((numeral, subst (FitsSigned w64) (sym same) fits), same)

-- a record with a field reads back as it is
same_fields : (fields : List (List ℕ)) → 0 < length fields → read_back fields ≡ fields
same_fields [] some = absurd (omega arith)
same_fields (field ∷ rest) some = refl

-- the records of many texts of records, one after the other
pub records-text : (rows : List (List (List ℕ))) → All (λ fields. 0 < length fields) rows → records default_config (flat_map (row_text default_writer) rows)
    ≡ rows
unfolding next_record
records-text [] some = records-none st.StartRecord [] refl
records-text (fields ∷ rows) some =
    let tail = flat_map (row_text default_writer) rows in
    let more = records-more st.StartRecord (row_text default_writer fields ++ tail) (read_back fields, st.StartRecord, tail) refl (read-write fields tail) in
    more ∙ ap (λ first. first ∷ records default_config tail) (same_fields fields (All-head (λ fields. 0 < length fields) fields rows some))
    ∙ ap (λ rest. fields ∷ rest) (records-text rows (All-tail (λ fields. 0 < length fields) fields rows some))

-- bytes that begin with a mark within the first part, as an ASCII byte comes after it
mark_in : (x : List ℕ) (c : ℕ) (rest : List ℕ) → c < 0x80 → BeginsWithMark (x ++ c ∷ rest) → BeginsWithMark x
mark_in [] c rest small (after, same) = absurd (let e : c ≡ 0xEF = cc in omega arith)
mark_in (a ∷ []) c rest small (after, same) = absurd (let e : c ≡ 0xBB = cc in omega arith)
mark_in (a ∷ b ∷ []) c rest small (after, same) = absurd (let e : c ≡ 0xBF = cc in omega arith)
mark_in (a ∷ b ∷ d ∷ x) c rest small (after, same) = (x, (cc))

-- what comes after the first field of a record begins with an ASCII byte
abbrev AsciiFirst : List ℕ → Type 0
AsciiFirst text = (c : ℕ) × (rest : List ℕ) × (c < 0x80) × (text ≡ c ∷ rest)

blank_first : (blank : Bool) (tail : List ℕ) → AsciiFirst (((if blank then 34 ∷ 34 ∷ [] else []) ++ 10 ∷ []) ++ tail)
blank_first true tail = (34, 34 ∷ 10 ∷ tail, omega arith, refl)
blank_first false tail = (10, tail, omega arith, refl)

after_first : (fields : List (List ℕ)) (blank : Bool) (tail : List ℕ)
    → AsciiFirst (fields_text default_writer fields ++ (((if blank then 34 ∷ 34 ∷ [] else []) ++ 10 ∷ []) ++ tail))
unfolding fields_text
after_first [] blank tail = blank_first blank tail
after_first (y ∷ ys) blank tail = (44, _, omega arith, refl)

-- a field in quotes, and one without
quoted_text : (field : List ℕ) → list_any (needs_byte default_writer) field ≡ true → field_text default_writer field ≡ quoted default_writer field
quoted_text field needs = rw needs refl

pub plain_text : (field : List ℕ) → list_any (needs_byte default_writer) field ≡ false → field_text default_writer field ≡ field
plain_text field plain = rw plain refl

no_mark_first : (c : ℕ) (rest : List ℕ) → c < 0x80 → ¬ (BeginsWithMark (c ∷ rest))
no_mark_first c rest small (after, same) = let e : c ≡ 0xEF = cc in omega arith

-- a text that begins with a mark has it in its first name
mark_in_name : (name : List ℕ) (fields : List (List ℕ)) (tail : List ℕ) → BeginsWithMark (row_text default_writer (name ∷ fields) ++ tail) → BeginsWithMark name
mark_in_name name fields tail begins =
    let (c, rest, small, first) = after_first fields (is_blank default_writer (name ∷ fields)) tail in
    let whole : row_text default_writer (name ∷ fields) ++ tail ≡ field_text default_writer name ++ (c ∷ rest) =
    append_assoc (field_text default_writer name ++ fields_text default_writer fields) _ tail
    ∙ append_assoc (field_text default_writer name) (fields_text default_writer fields) _
    ∙ ap (λ more. field_text default_writer name ++ more) first in
    elim (cases_Bool (list_any (needs_byte default_writer) name)) [
      | inl needs ↦ absurd (no_mark_first 34 _ (omega arith) (subst BeginsWithMark (whole ∙ ap (λ field. field ++ (c ∷ rest)) (quoted_text name needs)) begins))
      | inr plain ↦ mark_in name c rest small (subst BeginsWithMark (whole ∙ ap (λ field. field ++ (c ∷ rest)) (plain_text name plain)) begins)
    ]

all_three : (x y z : Bool) → (x && y && z) ≡ true → (x ≡ true) × (y ≡ true) × (z ≡ true)
all_three true true true h = (refl, refl, refl)
all_three true true false h = cc
all_three true false true h = cc
all_three true false false h = cc
all_three false true true h = cc
all_three false true false h = cc
all_three false false true h = cc
all_three false false false h = cc

-- a text that begins with no mark is read whole
pub kept : (text : List ℕ) → ¬ (BeginsWithMark text) → strip_bom text ≡ text
unfolding strip_bom
kept [] none = refl
kept (a ∷ []) none = refl
kept (a ∷ b ∷ []) none = refl
kept (a ∷ b ∷ c ∷ rest) none =
    elim (cases_Bool (is_bom a b c)) [
      | inl mark ↦
          let (first, second, third) = all_three (a == 0xEF) (b == 0xBB) (c == 0xBF) mark in
          let one = eqb-true a 0xEF first in
          let two = eqb-true b 0xBB second in
          let three = eqb-true c 0xBF third in
          absurd (none (rest, (cc)))
      | inr other ↦ rw other refl
    ]

-- and one that begins with a mark is read after it
stripped : (rest : List ℕ) → strip_bom (0xEF ∷ 0xBB ∷ 0xBF ∷ rest) ≡ rest
unfolding strip_bom
stripped rest = refl

-- so reading without a mark is what `csv` does
pub without_mark_is : (text : List ℕ) → without_mark text ≡ strip_bom text
without_mark_is text =
    let mark : List ℕ = 0xEF ∷ 0xBB ∷ 0xBF ∷ [] in
    elim (cases_Bool (starts_with nat_eq text mark)) [
      | inl found ↦
          let begins : mark ≡ take 3 text = (bytes_eq-Decides mark (take 3 text)).0 found in
          rw found (sym (ap strip_bom (sym (take-append-drop 3 text) ∙ ap (λ front. front ++ drop 3 text) (sym begins)) ∙ stripped (drop 3 text)))
      | inr missing ↦
          rw missing (sym (kept text (λ (rest, begins). absurd (false≢true
          (sym missing ∙ (bytes_eq-Decides mark (take 3 text)).1 (sym (ap (take 3) begins)))))))
    ]

-- the text of a table reads as its records, if its first name begins with no mark
pub records_kept : (name : List ℕ) (fields : List (List ℕ)) (rows : List (List (List ℕ))) → All (λ fields. 0 < length fields) rows → ¬ (BeginsWithMark name)
    → records_of (flat_map (row_text default_writer) ((name ∷ fields) ∷ rows)) ≡ (name ∷ fields) ∷ rows
records_kept name fields rows some none =
    let tail = flat_map (row_text default_writer) rows in
    let whole = kept (row_text default_writer (name ∷ fields) ++ tail) (λ begins. none (mark_in_name name fields tail begins)) in
    ap (records default_config) whole ∙ records-text ((name ∷ fields) ∷ rows) (All-cons (λ fields. 0 < length fields) (name ∷ fields) rows (omega arith) some)

-- the decimal texts of rows are those rows
values_back : (row : List ℤ) → All (FitsSigned w64) row → map number_of (map signed_decimal row) ≡ row
values_back [] fits = refl
values_back (z ∷ row) fits =
    ap (λ first. first ∷ map number_of (map signed_decimal row)) (decimal_value z (All-head (FitsSigned w64) z row fits)).1
    ∙ ap (λ rest. z ∷ rest) (values_back row (All-tail (FitsSigned w64) z row fits))

rows_back : (rows : List (List ℤ)) → All (All (FitsSigned w64)) rows → map (map number_of) (map (map signed_decimal) rows) ≡ rows
rows_back [] fits = refl
rows_back (row ∷ rows) fits =
    ap (λ first. first ∷ map (map number_of) (map (map signed_decimal) rows)) (values_back row (All-head (All (FitsSigned w64)) row rows fits))
    ∙ ap (λ rest. row ∷ rest) (rows_back rows (All-tail (All (FitsSigned w64)) row rows fits))

-- the decimal texts of a row of a table are a row
row_texts : (count : ℕ) (row : List ℤ) → length row ≡ count → All (FitsSigned w64) row → IsRow count (map signed_decimal row)
row_texts count row width fits = record {
  width = length-map row signed_decimal ∙ width;
  values = All-map IsValue signed_decimal row (All-weaker (FitsSigned w64) (λ z. IsValue (signed_decimal z)) (λ z h. (decimal_value z h).0) row fits);
}

-- the text of a table stands for it, if its first name begins with no mark
pub text_loads : (names : List (List ℕ)) (rows : List (List ℤ)) → IsTable (record { names = names; rows = rows }) → All IsName names
    → All (All (FitsSigned w64)) rows → ¬ (BeginsWithMark (name_at names 0))
    → LoadsTable (table_text (record { names = names; rows = rows })) (record { names = names; rows = rows })
text_loads [] rows shape legal fits none = absurd (omega (arith, shape.heading.some))
text_loads (name ∷ fields) rows shape legal fits none =
    let names = name ∷ fields in
    let lines = map (map signed_decimal) rows in
    let table : NamedRows = record { names = names; rows = rows } in
    let are : All (IsRow (length names)) lines = All-map (IsRow (length names)) (map signed_decimal) rows
    (λ k d h. row_texts (length names) (get_or rows k d) (shape.widths k d h) (fits k d h)) in
    let some : All (λ line. 0 < length line) lines = All-weaker (IsRow (length names)) (λ line. 0 < length line)
    (λ line row. omega (arith, row.width)) lines are in
    let grows : GrowsBy (no_rows names) lines table = record { names = refl; lines = are; rows = sym (rows_back rows fits); shape = shape } in
    subst (λ records. RecordsStandFor records table) (sym (records_kept name fields lines some none)) (record { legal = legal; heading = shape.heading }, grows)
