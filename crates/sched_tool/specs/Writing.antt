-- What is written, and with which status a command ends.
use Rattle.std.specs.Prelude.{◌≡◌, ◌⊎◌, ℕ, List, Option}
use Rattle.std.specs.Io.KnownBytes.{Appends}
use Rattle.outside_io.specs.Faults.{CountedOne}
use Rattle.outside_io.specs.Pieces.{AppendsPrefix}
use Rattle.sched_tool.specs.Behaviours.{Behaviour}
use Rattle.sched_tool.specs.ErrorLines.{error_bytes}
use Rattle.sched_tool.specs.ReadFaults.{FaultsAt}
use Rattle.sched_tool.specs.Statuses.{status_of, write_status}
use Rattle.sched_tool.specs.declared.program.refusal.Refusal.{Refusal}
use Rattle.sched_tool.specs.declared.program.refusal.Refusal.TheVariants.{CannotRead, OutOfMemory}

-- the bytes written to a sink, if they are known, and the count of its faults
pub record SinkState : Type 0 where
  pub written : Option (List ℕ)
  pub faults : ℕ

-- one of these texts was written
abbrev pub WritesOne : (List ℕ → Type 0) → Option (List ℕ) → Option (List ℕ) → Type 0
WritesOne IsText old new = (text : List ℕ) × IsText text × Appends old new text

-- the text was written, and this is its status; or one write failed, after a beginning of the text,
-- and the status says so
abbrev pub IsWritten : SinkState → SinkState → List ℕ → ℕ → ℕ → Type 0
IsWritten old new text status result =
    ((result ≡ status) × Appends old.written new.written text × (new.faults ≡ old.faults))
    ⊎ ((result ≡ write_status) × AppendsPrefix old.written new.written text
    × CountedOne old.faults new.faults)

-- a refusal was told by its line, or, if memory ran out for that, by the line that says so
pub record IsRefusalWritten (old new : SinkState) (refusal : Refusal) (result : ℕ) : Type 0 where
  pub told : Refusal
  pub is : (told ≡ refusal) ⊎ (told ≡ OutOfMemory)
  pub written : IsWritten old new (error_bytes told) (status_of told) result

-- a refusal that rests on the words and on what the files hold, not on a fault or on memory
abbrev pub IsFinding : Refusal → Type 0
IsFinding (CannotRead file) = ⊥
IsFinding OutOfMemory = ⊥
IsFinding refusal = Unit {0}

-- a refusal is told: it has its cause, the status is its own, and its line was written
pub record TellsRefusal (does : Behaviour) (old new : Option (List ℕ)) (result : ℕ) : Type 0 where
  pub refusal : Refusal
  pub finding : IsFinding refusal
  pub cause : does.refuses refusal
  pub status : result ≡ status_of refusal
  pub line : Appends old new (error_bytes refusal)

-- a text that says that memory ran out: the line that says so, or an answer in part
abbrev pub IsMemoryText : Behaviour → List ℕ → Type 0
IsMemoryText does text = (text ≡ error_bytes OutOfMemory) ⊎ does.answers_in_part text

-- the line of a refusal that has its cause, and reads met the faults that go with it
pub record IsRefusalLine (does : Behaviour) (old new : List (List ℕ)) (text : List ℕ)
    : Type 0 where
  pub refusal : Refusal
  pub cause : does.refuses refusal
  pub faults : FaultsAt refusal old new
  pub line : text ≡ error_bytes refusal

-- a text that a command may write
abbrev pub IsTextOf : Behaviour → List (List ℕ) → List (List ℕ) → List ℕ → Type 0
IsTextOf does old new text = (does.answers text × (new ≡ old))
    ⊎ (IsRefusalLine does old new text ⊎ IsMemoryText does text)
