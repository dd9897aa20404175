-- The first refusal of a text. Records and fields are counted from 1, without the header.
use Rattle.std.specs.Prelude.{ℕ, ◌≡◌, ◌≢◌, ◌<◌, ◌≤◌, ◌+◌, ◌⊎◌, List, [], ◌∷◌, ◌++◌, length, All}
use Rattle.std.specs.Prelude.{Contains, FitsSigned}
use Rattle.std.specs.Int.{w64}
use Rattle.col_table.specs.Name.{IsName}
use Rattle.col_table.specs.NamedRows.{AllDiffer}
use Rattle.col_table.specs.declared.table.TheConstants.{MAX_COLUMNS, MAX_ROWS}
use Rattle.csv_tables.specs.Loading.{IsHeader, IsRow, records_of}
use Rattle.csv_tables.specs.Numbers.{IsNumber, IsValue, number_of}
use Rattle.csv_tables.specs.declared.number.FieldFault.{FieldFault}
use Rattle.csv_tables.specs.declared.number.FieldFault.TheVariants as fault
use Rattle.csv_tables.specs.declared.refusal.TableRefusal.{TableRefusal}
use Rattle.csv_tables.specs.declared.refusal.TableRefusal.TheVariants.{NoHeader, TooManyColumns}
use Rattle.csv_tables.specs.declared.refusal.TableRefusal.TheVariants.{BadName, TwiceNamed, Ragged}
use Rattle.csv_tables.specs.declared.refusal.TableRefusal.TheVariants.{NotANumber, OutOfRange}
use Rattle.csv_tables.specs.declared.refusal.TableRefusal.TheVariants.{TooManyRows, OutOfMemory}

-- a list begins with good items, and then has this one at this place, counted from 1
pub record Reaches {A : Type 0} (AreGood : List A → Type 0) (items : List A) (place : ℕ) (item : A)
    : Type 0 where
  pub before : List A
  pub after : List A
  pub parts : items ≡ before ++ item ∷ after
  pub good : AreGood before
  pub counted : place ≡ length before + 1

-- fields that are names, no two of them equal
pub record AreNames (fields : List (List ℕ)) : Type 0 where
  pub legal : All IsName fields
  pub differ : AllDiffer fields

-- the first refusal of a header: it is too long, or a field is not a name or repeats one
abbrev pub RefusesHeader : List (List ℕ) → TableRefusal → Type 0
RefusesHeader header TooManyColumns = MAX_COLUMNS < length header
RefusesHeader header (BadName place) =
    (length header ≤ MAX_COLUMNS)
    × (field : List ℕ) × Reaches AreNames header place field × ¬ (IsName field)
RefusesHeader header (TwiceNamed place) =
    (length header ≤ MAX_COLUMNS)
    × (field : List ℕ) × (reached : Reaches AreNames header place field)
    × IsName field × Contains reached.before field
RefusesHeader header NoHeader = ⊥
RefusesHeader header (Ragged row) = ⊥
RefusesHeader header (NotANumber row place) = ⊥
RefusesHeader header (OutOfRange row place) = ⊥
RefusesHeader header TooManyRows = ⊥
RefusesHeader header OutOfMemory = ⊥

-- a record is within the rows that a table holds, and as long as the header
pub record IsWide (count number : ℕ) (fields : List (List ℕ)) : Type 0 where
  pub within : number ≤ MAX_ROWS
  pub width : length fields ≡ count

-- the first refusal of the record with this number, under this many names: it is a row too many,
-- it has another length, or a field is not a number or one that an `i64` can't hold
abbrev pub RefusesRecord : ℕ → ℕ → List (List ℕ) → TableRefusal → Type 0
RefusesRecord count number fields TooManyRows = MAX_ROWS < number
RefusesRecord count number fields (Ragged row) =
    (row ≡ number) × (number ≤ MAX_ROWS) × (length fields ≢ count)
RefusesRecord count number fields (NotANumber row place) =
    (row ≡ number) × IsWide count number fields
    × (field : List ℕ) × Reaches (All IsValue) fields place field
    × ¬ (IsNumber field)
RefusesRecord count number fields (OutOfRange row place) =
    (row ≡ number) × IsWide count number fields
    × (field : List ℕ) × Reaches (All IsValue) fields place field
    × IsNumber field × ¬ (FitsSigned w64 (number_of field))
RefusesRecord count number fields NoHeader = ⊥
RefusesRecord count number fields TooManyColumns = ⊥
RefusesRecord count number fields (BadName place) = ⊥
RefusesRecord count number fields (TwiceNamed place) = ⊥
RefusesRecord count number fields OutOfMemory = ⊥

-- the refusal of a record for what is wrong with the field at a place
abbrev pub refusal_of : FieldFault → ℕ → ℕ → TableRefusal
refusal_of fault.NotANumber number place = NotANumber number place
refusal_of fault.OutOfRange number place = OutOfRange number place

-- the first refusal of the records under this many names: that of the first that is not a row
abbrev pub RefusesLines : ℕ → List (List (List ℕ)) → TableRefusal → Type 0
RefusesLines count lines refusal =
    (number : ℕ) × (fields : List (List ℕ)) × Reaches (All (IsRow count)) lines number fields
    × RefusesRecord count number fields refusal

-- the first refusal of the records of a text: there is no record, or the header is refused, or a
-- record under a good header is
abbrev pub RefusesRecords : List (List (List ℕ)) → TableRefusal → Type 0
RefusesRecords [] refusal = refusal ≡ NoHeader
RefusesRecords (header ∷ lines) refusal =
    RefusesHeader header refusal ⊎ (IsHeader header × RefusesLines (length header) lines refusal)

-- memory may run out at any text; every other refusal has its cause
abbrev pub OrMemory : (TableRefusal → Type 0) → TableRefusal → Type 0
OrMemory Refuses refusal = (refusal ≡ OutOfMemory) ⊎ Refuses refusal

-- a text is refused: memory ran out, or this is its first refusal
abbrev pub RefusesTable : List ℕ → TableRefusal → Type 0
RefusesTable bytes refusal = OrMemory (RefusesRecords (records_of bytes)) refusal
