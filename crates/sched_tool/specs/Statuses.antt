-- The statuses that the program ends with.
use Rattle.std.specs.Prelude.{ℕ, List, [], ◌∷◌}
use Rattle.sched_tool.specs.declared.program.refusal.Refusal.{Refusal}
use Rattle.sched_tool.specs.declared.program.refusal.Refusal.TheVariants.{Usage, CannotRead}
use Rattle.sched_tool.specs.declared.program.refusal.Refusal.TheVariants.{Script, Table}
use Rattle.sched_tool.specs.declared.program.refusal.Refusal.TheVariants.{OutOfMemory}

-- the command is answered, and the answer is written
abbrev pub answer_status : ℕ
answer_status = 0

-- a file can't be read
abbrev pub read_status : ℕ
read_status = 3

-- a write failed
abbrev pub write_status : ℕ
write_status = 4

-- memory ran out
abbrev pub memory_status : ℕ
memory_status = 7

-- the status of a refusal
abbrev pub status_of : Refusal → ℕ
status_of Usage = 2
status_of (CannotRead file) = read_status
status_of (Script fault) = 5
status_of (Table file fault) = 6
status_of OutOfMemory = memory_status

-- the statuses of a refusal of the words or of what the files hold
abbrev pub finding_statuses : List ℕ
finding_statuses = 2 ∷ 5 ∷ 6 ∷ []

-- all statuses
abbrev pub statuses : List ℕ
statuses = 0 ∷ 2 ∷ 3 ∷ 4 ∷ 5 ∷ 6 ∷ 7 ∷ []
