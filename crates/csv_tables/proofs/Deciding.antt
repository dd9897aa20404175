-- Each list of records stands for a table or has a first refusal.
use Rattle.std.proofs.Common.{◌≡◌, ◌⊎◌, ℕ, zero, suc, ℤ, ◌<◌, ◌≤◌, ◌+◌, ◌^◌, ◌++◌, ◌∷◌, nat_eq, List, [], All, Option, None, Some, length, get_or}
use Rattle.std.proofs.Common.{map, ap, add-one, arith, inl, inr, refl, subst, sym, ◌∙◌, append_assoc, FitsSigned}
use Rattle.std.specs.Cmp.Lexicographic.{pointwise}
use Rattle.std.specs.Int.{w64}
use Rattle.std.specs.List.{Contains}
use Rattle.std.specs.Str.{is_utf8}
use Rattle.std.specs.Str.Parse.{AllDigits}
use Rattle.std.specs.Char.{digit_value}
use Rattle.std.specs.Int.Signed.{mag}
use Rattle.std.proofs.lemmas.Bool.{cases_Bool, cases_eq, cases_lt, false≢true}
use Rattle.std.proofs.lemmas.List.{append-nil, length-map, length_push}
use Rattle.std.proofs.lemmas.List.Elements.{All-map, All-nil, All-push, All-weaker}
use Rattle.std.proofs.lemmas.Slice.Eq.{bytes_eq-Decides}
use Rattle.std.proofs.lemmas.Str.{IsUtf8-from_is_utf8, is_utf8-from_IsUtf8}
use Rattle.col_table.specs.Name.{IsName, is_name}
use Rattle.col_table.specs.NamedRows.{NamedRows, no_rows}
use Rattle.col_table.specs.declared.table.TheConstants.{MAX_COLUMNS, MAX_ROWS}
use Rattle.csv.specs.Machine.{Read, next_record}
use Rattle.csv.specs.Reading.{default_config, records, records_from, records_next}
use Rattle.csv.specs.declared.parser.State.{State}
use Rattle.csv.specs.declared.parser.State.TheVariants as st
use Rattle.csv_tables.specs.Loading.{GrowsBy, IsHeader, IsRow, RecordsStandFor}
use Rattle.csv_tables.specs.Numbers.{IsNumber, IsValue, digits_of, number_of}
use Rattle.csv_tables.specs.Refusals.{AreNames, IsWide, Reaches, RefusesHeader, RefusesLines, RefusesRecord, RefusesRecords}
use Rattle.csv_tables.specs.declared.refusal.TableRefusal.{TableRefusal}
use Rattle.csv_tables.specs.declared.refusal.TableRefusal.TheVariants.{NoHeader, TooManyColumns, BadName, TwiceNamed, Ragged, NotANumber, OutOfRange}
use Rattle.csv_tables.specs.declared.refusal.TableRefusal.TheVariants.{TooManyRows}
use Rattle.csv_tables.proofs.Headers.{header_from_names, names_none, names_push}
use Rattle.csv_tables.proofs.Records.{record-some}

abbrev OrNot : Type 0 → Type 0
OrNot P = P ⊎ ¬ P

-- whether a field is a name
name_or_not : (field : List ℕ) → OrNot (IsName field)
name_or_not field =
    elim (cases_Bool (is_utf8 field)) [
      | inr not ↦ inr (λ name. false≢true (sym not ∙ is_utf8-from_IsUtf8 field name.text))
      | inl text ↦ elim (cases_Bool (is_name field)) [
        | inl is ↦ inl (record { text = IsUtf8-from_is_utf8 field text; is = is })
        | inr not ↦ inr (λ name. false≢true (sym not ∙ name.is))
      ]
    ]

-- whether a name is among others
not_in : (x name : List ℕ) (xs : List (List ℕ)) → ¬ (x ≡ name) → ¬ (Contains xs name) → (k : ℕ) → k < length (x ∷ xs) → get_or (x ∷ xs) k name ≡ name → ⊥
not_in x name xs other none zero within same = other same
not_in x name xs other none (suc k) within same = none (k, omega arith, same)

twice_or_not : (names : List (List ℕ)) (name : List ℕ) → OrNot (Contains names name)
twice_or_not [] name = inr (λ (k, within, same). omega arith)
twice_or_not (x ∷ xs) name =
    elim (cases_Bool (pointwise nat_eq x name)) [
      | inl same ↦ inl (0, omega arith, (bytes_eq-Decides x name).0 same)
      | inr other ↦ elim (twice_or_not xs name) [
        | inl (k, within, same) ↦ inl (suc k, omega arith, same)
        | inr none ↦ inr (λ (k, within, same). not_in x name xs (λ e. false≢true (sym other ∙ (bytes_eq-Decides x name).1 e)) none k within same)
      ]
    ]

-- whether a field is a number, and one that 64 bits hold
digits_or_not : (digits : List ℕ) → OrNot (AllDigits 10 digits)
digits_or_not [] = inl tt
digits_or_not (c ∷ rest) =
    elim (cases_lt (digit_value c) 10) [
      | inl digit ↦ elim (digits_or_not rest) [ inl more ↦ inl (digit, more) | inr not ↦ inr (λ all. not all.1) ]
      | inr large ↦ inr (λ all. omega (arith, all.0))
    ]

number_or_not : (field : List ℕ) → OrNot (IsNumber field)
number_or_not field =
    elim (cases_lt 0 (length (digits_of field))) [
      | inl some ↦ elim (digits_or_not (digits_of field)) [ inl all ↦ inl (some, all) | inr not ↦ inr (λ number. not number.1) ]
      | inr none ↦ inr (λ number. omega (arith, none, number.0))
    ]

fits_or_not : (z : ℤ) → OrNot (FitsSigned w64 z)
fits_or_not z =
    elim (cases_lt (mag z) (2 ^ 63)) [ inl small ↦ inl (record { sfits = small }) | inr large ↦ inr (λ fits. omega (arith, large, fits.sfits)) ]

names_walk : (header before after : List (List ℕ)) → header ≡ before ++ after → AreNames before → length header ≤ MAX_COLUMNS → AreNames header
    ⊎ ((refusal : TableRefusal) × RefusesHeader header refusal)
names_walk header before [] parts are few = inl (subst AreNames (sym (parts ∙ append-nil before)) are)
names_walk header before (field ∷ after) parts are few =
    let reached : Reaches AreNames header (length before + 1) field = record { before = before; after = after; parts = parts; good = are; counted = refl } in
    elim (name_or_not field) [
      | inr illegal ↦ inr (BadName (length before + 1), (few, field, reached, illegal))
      | inl legal ↦ elim (twice_or_not before field) [
        | inl twice ↦ inr (TwiceNamed (length before + 1), (few, field, reached, legal, twice))
        | inr new ↦ names_walk header (before ++ field ∷ []) after (parts ∙ sym (append_assoc before (field ∷ []) after))
            (names_push before field are legal new) few
      ]
    ]

header_walk : (header : List (List ℕ)) → 0 < length header → IsHeader header ⊎ ((refusal : TableRefusal) × RefusesHeader header refusal)
header_walk header some =
    elim (cases_lt MAX_COLUMNS (length header)) [
      | inl many ↦ inr (TooManyColumns, many)
      | inr few ↦ elim (names_walk header [] header refl names_none few) [ inl are ↦ inl (header_from_names header are some few) | inr refused ↦ inr refused ]
    ]

values_walk : (count number : ℕ) (fields before after : List (List ℕ)) → fields ≡ before ++ after → All IsValue before → IsWide count number fields
    → All IsValue fields ⊎ ((refusal : TableRefusal) × RefusesRecord count number fields refusal)
values_walk count number fields before [] parts are wide = inl (subst (All IsValue) (sym (parts ∙ append-nil before)) are)
values_walk count number fields before (field ∷ after) parts are wide =
    let reached : Reaches (All IsValue) fields
    (length before + 1) field = record { before = before; after = after; parts = parts; good = are; counted = refl } in
    elim (number_or_not field) [
      | inr not ↦ inr (NotANumber number (length before + 1), (refl, wide, field, reached, not))
      | inl is ↦ elim (fits_or_not (number_of field)) [
        | inr large ↦ inr (OutOfRange number (length before + 1), (refl, wide, field, reached, is, large))
        | inl fits ↦ values_walk count number fields (before ++ field ∷ []) after (parts ∙ sym (append_assoc before (field ∷ []) after))
            (All-push IsValue before field are (is, fits)) wide
      ]
    ]

record_walk : (count number : ℕ) (fields : List (List ℕ)) → ((number ≤ MAX_ROWS) × IsRow count fields)
    ⊎ ((refusal : TableRefusal) × RefusesRecord count number fields refusal)
record_walk count number fields =
    elim (cases_lt MAX_ROWS number) [
      | inl many ↦ inr (TooManyRows, many)
      | inr few ↦ elim (cases_eq (length fields) count) [
        | inr other ↦ inr (Ragged number, (refl, few, other))
        | inl width ↦ elim (values_walk count number fields [] fields refl (All-nil IsValue) (record { within = few; width = width })) [
          | inl values ↦ inl (few, record { width = width; values = values })
          | inr refused ↦ inr refused
        ]
      ]
    ]

lines_walk : (count : ℕ) (lines before after : List (List (List ℕ))) → lines ≡ before ++ after → All (IsRow count) before → length before ≤ MAX_ROWS
    → (All (IsRow count) lines × (length lines ≤ MAX_ROWS)) ⊎ ((refusal : TableRefusal) × RefusesLines count lines refusal)
lines_walk count lines before [] parts are few =
    let whole = parts ∙ append-nil before in
    inl (subst (All (IsRow count)) (sym whole) are, omega (arith, few, ap length whole))
lines_walk count lines before (fields ∷ after) parts are few =
    elim (record_walk count (length before + 1) fields) [
      | inr (refusal, refused) ↦
          inr (refusal, (length before + 1, fields, record { before = before; after = after; parts = parts; good = are; counted = refl }, refused))
      | inl (room, row) ↦
          lines_walk count lines (before ++ fields ∷ []) after (parts ∙ sym (append_assoc before (fields ∷ []) after))
          (All-push (IsRow count) before fields are row) (omega (arith, room, length_push before fields))
    ]

-- good lines under a good header make a table
table_of : (header : List (List ℕ)) (lines : List (List (List ℕ))) → IsHeader header → All (IsRow (length header)) lines → length lines ≤ MAX_ROWS
    → GrowsBy (no_rows header) lines (record { names = header; rows = map (map number_of) lines })
table_of header lines head are few = record {
  names = refl;
  lines = are;
  rows = refl;
  shape = record {
    heading = head.heading;
    widths = All-map (λ row. length row ≡ length header) (map number_of) lines
        (All-weaker (IsRow (length header)) (λ fields. length (map number_of fields) ≡ length header)
        (λ fields row. length-map fields number_of ∙ row.width) lines are);
    few = omega (arith, few, length-map lines (map number_of));
  };
}

-- each list of records whose first one has a field has a verdict
abbrev pub Verdict : List (List (List ℕ)) → Type 0
Verdict lines = ((table : NamedRows) × RecordsStandFor lines table) ⊎ ((refusal : TableRefusal) × RefusesRecords lines refusal)

verdict_under : (header : List (List ℕ)) (lines : List (List (List ℕ))) → 0 < length header → Verdict (header ∷ lines)
verdict_under header lines some =
    elim (header_walk header some) [
      | inr (refusal, refused) ↦ inr (refusal, inl refused)
      | inl head ↦ elim (lines_walk (length header) lines [] lines refl (All-nil (IsRow (length header))) (omega arith)) [
        | inl (are, few) ↦ inl (record { names = header; rows = map (map number_of) lines }, (head, table_of header lines head are few))
        | inr (refusal, refused) ↦ inr (refusal, inr (head, refused))
      ]
    ]

verdict_next : (more : State → List ℕ → List (List (List ℕ))) (o : Option Read) → ((p : Read) → o ≡ Some p → 0 < length p.0) → Verdict (records_next more o)
verdict_next more None some = inr (NoHeader, refl)
verdict_next more (Some p) some = verdict_under p.0 (more p.1 p.2) (some p refl)

-- the records of each text have a verdict
pub verdict_of : (bytes : List ℕ) → Verdict (records default_config bytes)
unfolding records_from
verdict_of bytes =
    subst (λ (n : ℕ). Verdict (records_from default_config n st.StartRecord bytes)) (sym (add-one (length bytes)))
    (verdict_next (records_from default_config (length bytes)) (next_record default_config st.StartRecord [] [] bytes)
    (λ p h. record-some st.StartRecord [] [] bytes p h))
