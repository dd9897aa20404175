-- A list of records stands for one table, or has one first refusal.
use Rattle.std.proofs.Common.{◌≡◌, ◌≢◌, ◌⊎◌, ℕ, ◌<◌, ◌≤◌, ◌++◌, ◌∷◌, List, [], All, length, map, ap, arith, inl, inr, refl, subst, sym, ◌∙◌, Result, Ok, Err}
use Rattle.std.proofs.Common.{FitsSigned}
use Rattle.std.specs.Int.{w64}
use Rattle.std.specs.List.{Contains}
use Rattle.std.proofs.lemmas.List.{get_or_append_left, get_or_at, get_or_default, length-append, length-map}
use Rattle.col_table.specs.Name.{IsName}
use Rattle.col_table.specs.NamedRows.{NamedRows}
use Rattle.col_table.specs.Verdicts.{HasOneVerdict}
use Rattle.col_table.specs.declared.table.TheConstants.{MAX_COLUMNS, MAX_ROWS}
use Rattle.csv.specs.Reading.{strip_bom}
use Rattle.csv_tables.specs.Loading.{GrowsBy, IsHeader, IsRow, RecordsStandFor, records_of}
use Rattle.csv_tables.specs.Numbers.{IsNumber, IsValue, number_of}
use Rattle.csv_tables.specs.Refusals.{AreNames, IsWide, Reaches, RefusesHeader, RefusesLines, RefusesRecord, RefusesRecords}
use Rattle.csv_tables.specs.declared.refusal.TableRefusal.{TableRefusal}
use Rattle.csv_tables.specs.declared.refusal.TableRefusal.TheVariants.{NoHeader, TooManyColumns, BadName, TwiceNamed, Ragged, NotANumber, OutOfRange}
use Rattle.csv_tables.specs.declared.refusal.TableRefusal.TheVariants.{TooManyRows, OutOfMemory}
use Rattle.csv_tables.specs.Verdicts.{IsVerdict}
use Rattle.csv_tables.proofs.Deciding.{verdict_of}
use Rattle.csv_tables.proofs.Loading.{one_table}
use Rattle.csv_tables.proofs.Splits.{compared, good_at, one_reach}

-- names do not go on with a field that is no name, nor with an earlier name
breaks_bad : (before rest : List (List ℕ)) (field : List ℕ) → ¬ (IsName field) → ¬ (AreNames (before ++ field ∷ rest))
breaks_bad before rest field illegal are = illegal (good_at IsName before rest field are.legal)

breaks_twice : (before rest : List (List ℕ)) (field : List ℕ) → Contains before field → ¬ (AreNames (before ++ field ∷ rest))
breaks_twice before rest field (earlier, within, same) are =
    are.differ (length before) (omega (arith, length-append before (field ∷ rest))) (
      earlier,
      within,
      get_or_append_left before (field ∷ rest) [] earlier within ∙ get_or_default before earlier [] field within ∙ same
          ∙ sym (get_or_at before field rest [] (length before) refl),
    )

-- the cases of a header's refusal
abbrev TooLong : List (List ℕ) → TableRefusal → Type 0
TooLong header refusal = (refusal ≡ TooManyColumns) × (MAX_COLUMNS < length header)

record AtField (header : List (List ℕ)) (refusal : TableRefusal) : Type 0 where
  few : length header ≤ MAX_COLUMNS
  place : ℕ
  field : List ℕ
  reached : Reaches AreNames header place field
  why : ((refusal ≡ BadName place) × ¬ (IsName field)) ⊎ ((refusal ≡ TwiceNamed place) × IsName field × Contains reached.before field)

header_cases : (header : List (List ℕ)) (refusal : TableRefusal) → RefusesHeader header refusal → TooLong header refusal ⊎ AtField header refusal
header_cases header TooManyColumns h = inl (refl, h)
header_cases header (BadName place) h = inr (record { few = h.0; place = place; field = h.1; reached = h.2; why = inl (refl, h.3) })
header_cases header (TwiceNamed place) h = inr (record { few = h.0; place = place; field = h.1; reached = h.2; why = inr (refl, h.3, h.4) })
header_cases header NoHeader h = absurd h
header_cases header (Ragged row) h = absurd h
header_cases header (NotANumber row place) h = absurd h
header_cases header (OutOfRange row place) h = absurd h
header_cases header TooManyRows h = absurd h
header_cases header OutOfMemory h = absurd h

field_breaks : (header : List (List ℕ)) (refusal : TableRefusal) (at : AtField header refusal) (rest : List (List ℕ))
    → ¬ (AreNames (at.reached.before ++ at.field ∷ rest))
field_breaks header refusal at rest =
    elim at.why [ inl bad ↦ breaks_bad at.reached.before rest at.field bad.1 | inr twice ↦ breaks_twice at.reached.before rest at.field twice.2 ]

-- two refusals of one field are one
one_field : (header : List (List ℕ)) (a b : TableRefusal) → AtField header a → AtField header b → a ≡ b
one_field header a b x y =
    let (place, field) = one_reach AreNames header x.place y.place x.field y.field x.reached y.reached (field_breaks header a x) (field_breaks header b y) in
    elim x.why [
      | inl bad ↦ elim y.why [
        | inl worse ↦ bad.0 ∙ ap BadName place ∙ sym worse.0
        | inr twice ↦ absurd (bad.1 (subst IsName (sym field) twice.1))
      ]
      | inr twice ↦ elim y.why [
        | inl worse ↦ absurd (worse.1 (subst IsName field twice.1))
        | inr again ↦ twice.0 ∙ ap TwiceNamed place ∙ sym again.0
      ]
    ]

one_header : (header : List (List ℕ)) (a b : TableRefusal) → RefusesHeader header a → RefusesHeader header b → a ≡ b
one_header header a b x y =
    elim (header_cases header a x) [
      | inl long ↦ elim (header_cases header b y) [ inl longer ↦ long.0 ∙ sym longer.0 | inr at ↦ absurd (omega (arith, long.1, at.few)) ]
      | inr at ↦ elim (header_cases header b y) [ inl longer ↦ absurd (omega (arith, longer.1, at.few)) | inr other ↦ one_field header a b at other ]
    ]

-- a header that is refused heads no table
refused_header : (header : List (List ℕ)) (refusal : TableRefusal) → RefusesHeader header refusal → ¬ (IsHeader header)
refused_header header refusal x head =
    elim (header_cases header refusal x) [
      | inl long ↦ omega (arith, long.1, head.heading.few)
      | inr at ↦ field_breaks header refusal at at.reached.after (subst AreNames at.reached.parts (record { legal = head.legal; differ = head.heading.differ }))
    ]

-- the cases of a record's refusal
record AtPlace (count number : ℕ) (fields : List (List ℕ)) (refusal : TableRefusal) : Type 0 where
  wide : IsWide count number fields
  place : ℕ
  field : List ℕ
  reached : Reaches (All IsValue) fields place field
  why : ((refusal ≡ NotANumber number place) × ¬ (IsNumber field))
      ⊎ ((refusal ≡ OutOfRange number place) × IsNumber field × ¬ (FitsSigned w64 (number_of field)))

abbrev TooMany : ℕ → TableRefusal → Type 0
TooMany number refusal = (refusal ≡ TooManyRows) × (MAX_ROWS < number)

abbrev OtherLength : ℕ → ℕ → List (List ℕ) → TableRefusal → Type 0
OtherLength count number fields refusal = (refusal ≡ Ragged number) × (number ≤ MAX_ROWS) × (length fields ≢ count)

record_cases : (count number : ℕ) (fields : List (List ℕ)) (refusal : TableRefusal) → RefusesRecord count number fields refusal
    → TooMany number refusal ⊎ OtherLength count number fields refusal ⊎ AtPlace count number fields refusal
record_cases count number fields TooManyRows h = inl (refl, h)
record_cases count number fields (Ragged row) h = inr (inl (ap Ragged h.0, h.1, h.2))
record_cases count number fields (NotANumber row place) h =
    inr (inr (record { wide = h.1; place = place; field = h.2; reached = h.3; why = inl (ap (λ row. NotANumber row place) h.0, h.4) }))
record_cases count number fields (OutOfRange row place) h =
    inr (inr (record { wide = h.1; place = place; field = h.2; reached = h.3; why = inr (ap (λ row. OutOfRange row place) h.0, h.4, h.5) }))
record_cases count number fields NoHeader h = absurd h
record_cases count number fields TooManyColumns h = absurd h
record_cases count number fields (BadName place) h = absurd h
record_cases count number fields (TwiceNamed place) h = absurd h
record_cases count number fields OutOfMemory h = absurd h

no_value : (count number : ℕ) (fields : List (List ℕ)) (refusal : TableRefusal) (at : AtPlace count number fields refusal) → ¬ (IsValue at.field)
no_value count number fields refusal at value = elim at.why [ inl bad ↦ bad.1 value.0 | inr large ↦ large.2 value.1 ]

place_breaks : (count number : ℕ) (fields : List (List ℕ)) (refusal : TableRefusal) (at : AtPlace count number fields refusal) (rest : List (List ℕ))
    → ¬ (All IsValue (at.reached.before ++ at.field ∷ rest))
place_breaks count number fields refusal at rest all = no_value count number fields refusal at (good_at IsValue at.reached.before rest at.field all)

one_place : (count number : ℕ) (fields : List (List ℕ)) (a b : TableRefusal) → AtPlace count number fields a → AtPlace count number fields b → a ≡ b
one_place count number fields a b x y =
    let (place, field) = one_reach (All IsValue) fields x.place y.place x.field y.field x.reached y.reached (place_breaks count number fields a x)
    (place_breaks count number fields b y) in
    elim x.why [
      | inl bad ↦ elim y.why [
        | inl worse ↦ bad.0 ∙ ap (NotANumber number) place ∙ sym worse.0
        | inr large ↦ absurd (bad.1 (subst IsNumber (sym field) large.1))
      ]
      | inr large ↦ elim y.why [
        | inl worse ↦ absurd (worse.1 (subst IsNumber field large.1))
        | inr larger ↦ large.0 ∙ ap (OutOfRange number) place ∙ sym larger.0
      ]
    ]

one_record : (count number : ℕ) (fields : List (List ℕ)) (a b : TableRefusal) → RefusesRecord count number fields a → RefusesRecord count number fields b → a
    ≡ b
one_record count number fields a b x y =
    elim (record_cases count number fields a x) [
      | inl many ↦ elim (record_cases count number fields b y) [
        | inl more ↦ many.0 ∙ sym more.0
        | inr (inl other) ↦ absurd (omega (arith, many.1, other.1))
        | inr (inr at) ↦ absurd (omega (arith, many.1, at.wide.within))
      ]
      | inr (inl other) ↦ elim (record_cases count number fields b y) [
        | inl more ↦ absurd (omega (arith, more.1, other.1))
        | inr (inl again) ↦ other.0 ∙ sym again.0
        | inr (inr at) ↦ absurd (other.2 at.wide.width)
      ]
      | inr (inr at) ↦ elim (record_cases count number fields b y) [
        | inl more ↦ absurd (omega (arith, more.1, at.wide.within))
        | inr (inl other) ↦ absurd (other.2 at.wide.width)
        | inr (inr also) ↦ one_place count number fields a b at also
      ]
    ]

-- a record that is refused is a row too many, or no row
no_row : (count number : ℕ) (fields : List (List ℕ)) (refusal : TableRefusal) → RefusesRecord count number fields refusal → TooMany number refusal
    ⊎ ((number ≤ MAX_ROWS) × ¬ (IsRow count fields))
no_row count number fields refusal x =
    elim (record_cases count number fields refusal x) [
      | inl many ↦ inl many
      | inr (inl other) ↦ inr (other.1, λ row. other.2 row.width)
      | inr (inr at) ↦ inr (
        at.wide.within,
        λ row. place_breaks count number fields refusal at at.reached.after
            (subst (All IsValue) at.reached.parts row.values),
      )
    ]

-- a row too many comes after all rows, so no other record is refused
row_too_many : (count : ℕ) (lines : List (List (List ℕ))) (number other : ℕ) (fields next : List (List ℕ)) → Reaches (All (IsRow count)) lines number fields
    → MAX_ROWS < number
    → Reaches (All (IsRow count)) lines other next → other ≤ MAX_ROWS → ¬ (IsRow count next) → ⊥
row_too_many count lines number other fields next one many two within bad =
    elim (compared one.before two.before one.after two.after fields next (sym one.parts ∙ two.parts)) [
      | inl (parts, same) ↦ omega (arith, one.counted, two.counted, many, within, ap length parts)
      | inr (inl (rest, parts)) ↦ omega (arith, one.counted, two.counted, many, within, ap length parts, length-append one.before (fields ∷ rest))
      | inr (inr (rest, parts)) ↦ bad (good_at (IsRow count) two.before rest next (subst (All (IsRow count)) parts one.good))
    ]

one_of_lines : (count : ℕ) (lines : List (List (List ℕ))) (a b : TableRefusal) → RefusesLines count lines a → RefusesLines count lines b → a ≡ b
one_of_lines count lines a b (number, fields, one, x) (other, next, two, y) =
    elim (no_row count number fields a x) [
      | inl many ↦ elim (no_row count other next b y) [
        | inl more ↦ many.0 ∙ sym more.0
        | inr bad ↦ absurd (row_too_many count lines number other fields next one many.1 two bad.0 bad.1)
      ]
      | inr bad ↦ elim (no_row count other next b y) [
        | inl more ↦ absurd (row_too_many count lines other number next fields two more.1 one bad.0 bad.1)
        | inr worse ↦
            let same = one_reach (All (IsRow count)) lines number other fields next one two
            (λ rest all. bad.1 (good_at (IsRow count) one.before rest fields all)) (λ rest all. worse.1 (good_at (IsRow count) two.before rest next all)) in
            one_record count number fields a b x (subst (λ n. RefusesRecord count n fields b) (sym same.0)
            (subst (λ fields. RefusesRecord count other fields b) (sym same.1) y))
      ]
    ]

-- a table that grows by records has as many rows at least
rows_many : (old table : NamedRows) (lines : List (List (List ℕ))) → GrowsBy old lines table → length lines ≤ length table.rows
rows_many old table lines grows = omega (arith, ap length grows.rows, length-append old.rows (map (map number_of) lines), length-map lines (map number_of))

-- lines that are refused are no rows of a table
refused_lines : (old table : NamedRows) (lines : List (List (List ℕ))) (refusal : TableRefusal) → RefusesLines (length old.names) lines refusal
    → GrowsBy old lines table → ⊥
refused_lines old table lines refusal (number, fields, one, x) grows =
    elim (no_row (length old.names) number fields refusal x) [
      | inl many ↦ omega (
        arith,
        many.1,
        one.counted,
        ap length one.parts,
        length-append one.before
            (fields ∷ one.after),
        grows.shape.few,
        rows_many old table lines grows,
      )
      | inr bad ↦ bad.1 (good_at (IsRow (length old.names)) one.before one.after fields (subst (All (IsRow (length old.names))) one.parts grows.lines))
    ]

-- a list of records has one first refusal at most
pub one_refusal : (records : List (List (List ℕ))) (a b : TableRefusal) → RefusesRecords records a → RefusesRecords records b → a ≡ b
one_refusal [] a b x y = x ∙ sym y
one_refusal (header ∷ lines) a b (inl x) (inl y) = one_header header a b x y
one_refusal (header ∷ lines) a b (inl x) (inr y) = absurd (refused_header header a x y.0)
one_refusal (header ∷ lines) a b (inr x) (inl y) = absurd (refused_header header b y x.0)
one_refusal (header ∷ lines) a b (inr x) (inr y) = one_of_lines (length header) lines a b x.1 y.1

-- and none where it stands for a table
pub not_both : (records : List (List (List ℕ))) (table : NamedRows) (refusal : TableRefusal) → RecordsStandFor records table → RefusesRecords records refusal
    → ⊥
not_both [] table refusal stands x = stands
not_both (header ∷ lines) table refusal stands (inl x) = refused_header header refusal x stands.0
not_both (header ∷ lines) table refusal stands (inr x) = refused_lines _ table lines refusal x.1 stands.1

-- a text has one verdict at most, and one at least
at_most_one : (bytes : List ℕ) (one other : Result NamedRows TableRefusal) → IsVerdict bytes one → IsVerdict bytes other → other ≡ one
at_most_one bytes (Ok a) (Ok b) x y = ap (λ table. Ok table) (one_table (records_of bytes) b a y x)
at_most_one bytes (Ok a) (Err b) x y = absurd (not_both (records_of bytes) a b x y)
at_most_one bytes (Err a) (Ok b) x y = absurd (not_both (records_of bytes) b a y x)
at_most_one bytes (Err a) (Err b) x y = ap (λ refusal. Err refusal) (one_refusal (records_of bytes) b a y x)

pub one_verdict : (bytes : List ℕ) → HasOneVerdict (IsVerdict bytes)
one_verdict bytes =
    elim (verdict_of (strip_bom bytes)) [
      | inl (table, stands) ↦ record { verdict = Ok table; is = stands; only = λ other h. at_most_one bytes (Ok table) other stands h }
      | inr (refusal, refused) ↦ record { verdict = Err refusal; is = refused; only = λ other h. at_most_one bytes (Err refusal) other refused h }
    ]
