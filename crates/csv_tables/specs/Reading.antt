-- Reading a text record by record, by the machine of `csv`.
use Rattle.std.specs.Prelude.{ℕ, ◌≡◌, ◌<◌, ◌≤◌, ◌⊎◌, Bool, true, false, List, [], ◌∷◌, length, drop}
use Rattle.std.specs.Prelude.{Option, Some, slice_range}
use Rattle.std.specs.List.{list_any}
use Rattle.col_table.specs.declared.table.TheConstants.{MAX_COLUMNS}
use Rattle.csv.specs.Machine.{Read, next_record, step as machine_step}
use Rattle.csv.specs.Reading.{default_config, records}
use Rattle.csv.specs.Writing.{default_writer, needs_byte}
use Rattle.csv.specs.declared.parser.Action.{Action}
use Rattle.csv.specs.declared.parser.Action.TheVariants as act
use Rattle.csv.specs.declared.parser.State.{State as MachineState}
use Rattle.csv.specs.declared.parser.State.TheVariants as st
use Rattle.csv_tables.specs.declared.scan.Found.{Found}
use Rattle.csv_tables.specs.declared.scan.Found.TheVariants.{Nothing, Record, TooLong}
use Rattle.csv_tables.specs.declared.scan.Progress.{Progress}
use Rattle.csv_tables.specs.declared.scan.Progress.TheVariants as progress
use Rattle.csv_tables.specs.declared.scan.State.{State}
use Rattle.csv_tables.specs.declared.scan.State.TheVariants as state
use Rattle.csv_tables.specs.declared.scan.Step.{Step}
use Rattle.csv_tables.specs.declared.scan.Step.TheVariants as step

-- the records of a text from a place on, which lies between two records
abbrev pub records_at : List ℕ → ℕ → List (List (List ℕ))
records_at bytes at = records default_config (drop at bytes)

-- a text has a record with these fields at one place, and its other records at the next
pub record IsRecordAt (bytes : List ℕ) (at next : ℕ) (fields : List (List ℕ)) : Type 0 where
  pub within : next ≤ length bytes
  pub some : 0 < length fields
  pub records : records_at bytes at ≡ fields ∷ records_at bytes next

-- a text has a record with these fields at a place, and other records after it
abbrev pub HasRecordAt : List ℕ → ℕ → List (List ℕ) → Type 0
HasRecordAt bytes at fields =
    (others : List (List (List ℕ))) × (records_at bytes at ≡ fields ∷ others)

-- what there is at a place: no record, or one with these few fields, or one with too many
abbrev pub IsFound : List ℕ → ℕ → Found → List (List ℕ) → Type 0
IsFound bytes at Nothing fields = records_at bytes at ≡ []
IsFound bytes at (Record next) fields =
    IsRecordAt bytes at next fields × (length fields ≤ MAX_COLUMNS)
IsFound bytes at TooLong fields =
    (line : List (List ℕ)) × HasRecordAt bytes at line × (MAX_COLUMNS < length line)

-- the machine's name for a state within a record
abbrev pub state_of : State → MachineState
state_of state.StartRecord = st.StartRecord
state_of state.StartField = st.StartField
state_of state.InField = st.InField
state_of state.InQuoted = st.InQuoted
state_of state.AfterQuote = st.AfterQuote

-- what the machine does at a byte: its next state and its action
abbrev pub does : MachineState → ℕ → MachineState × Action
does from byte = machine_step default_config from byte

-- a step is what the machine does at a byte
abbrev pub IsStep : MachineState → ℕ → Step → Type 0
IsStep from byte (step.Skip next) = does from byte ≡ (state_of next, act.Skip)
IsStep from byte (step.Copy next) = does from byte ≡ (state_of next, act.Copy)
IsStep from byte step.EndField = does from byte ≡ (st.StartField, act.EndField)
IsStep from byte step.EndRecord = (after : MachineState) × (does from byte ≡ (after, act.EndRecord))

-- the record under way: its whole fields, and the bytes of the field at hand
pub record Underway : Type 0 where
  pub fields : List (List ℕ)
  pub field : List ℕ

-- what the machine gives from a state on, with a record under way
abbrev pub reads_from : MachineState → Underway → List ℕ → Option Read
reads_from from underway bytes =
    next_record default_config from underway.fields underway.field bytes

-- a byte makes the record under way another, read on from a state; or it ends the record; or the
-- record is too long, whatever follows
abbrev pub TakesByte : MachineState → ℕ → Underway → Progress → Underway → Type 0
TakesByte from byte old (progress.Going next) new =
    (length new.fields < MAX_COLUMNS)
    × ((rest : List ℕ)
    → reads_from from old (byte ∷ rest) ≡ reads_from (state_of next) new rest)
TakesByte from byte old progress.Ended new =
    (length new.fields ≤ MAX_COLUMNS)
    × ((rest : List ℕ) → (after : MachineState)
    × (reads_from from old (byte ∷ rest) ≡ Some (new.fields, after, rest)))
TakesByte from byte old progress.TooLong new =
    (rest : List ℕ) → (read : Read)
    × (reads_from from old (byte ∷ rest) ≡ Some read) × (MAX_COLUMNS < length read.0)

-- no byte from one place to another is a mark of the format
pub record IsUnmarked (bytes : List ℕ) (start end : ℕ) : Type 0 where
  pub order : start ≤ end
  pub within : end ≤ length bytes
  pub plain : list_any (needs_byte default_writer) (slice_range bytes start end) ≡ false

-- what ends a record at its last field: the end of the text, or a byte that ends a line
abbrev pub EndsRecord : List ℕ → List ℕ → Type 0
EndsRecord bytes rest =
    ((bytes ≡ []) × (rest ≡ []))
    ⊎ ((byte : ℕ) × ((byte ≡ 13) ⊎ (byte ≡ 10)) × (bytes ≡ byte ∷ rest))

-- what follows a field: a comma, or, after the last one, what ends the record
abbrev pub EndsField : Bool → List ℕ → List ℕ → Type 0
EndsField true bytes rest = EndsRecord bytes rest
EndsField false bytes rest = bytes ≡ 44 ∷ rest
