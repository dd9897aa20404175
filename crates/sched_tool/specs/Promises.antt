-- What a command promises of its end.
use Rattle.std.specs.Prelude.{◌≡◌, ◌≢◌, ◌⊎◌, ℕ, List, ◌∷◌, Contains}
use Rattle.std.specs.Io.KnownBytes.{Appends}
use Rattle.outside_io.specs.Faults.{CountedOne, OnlyFailed}
use Rattle.outside_io.specs.Pieces.{AppendsPrefix}
use Rattle.sched_tool.specs.Behaviours.{Behaviour}
use Rattle.sched_tool.specs.ErrorLines.{error_bytes}
use Rattle.sched_tool.specs.ReadFaults.{NoCountRose, OneFaultAtMost}
use Rattle.sched_tool.specs.Statuses.{answer_status, finding_statuses, memory_status, read_status}
use Rattle.sched_tool.specs.Statuses.{status_of, statuses, write_status}
use Rattle.sched_tool.specs.Writing.{IsFinding, IsMemoryText, IsTextOf, SinkState, TellsRefusal}
use Rattle.sched_tool.specs.Writing.{WritesOne}
use Rattle.sched_tool.specs.declared.program.refusal.Refusal.{Refusal}
use Rattle.sched_tool.specs.declared.program.refusal.Refusal.TheVariants.{CannotRead}

-- what a command promises of the status that it ends with, of what it wrote and of the faults that
-- it met. It does `may` by what the files may hold, and `sure` by what they are known to hold.
-- `before` and `after` are the names of the files whose reads failed, one for each fault, and `old`
-- and `new` the sink.
pub record EndsRightly (may sure : Behaviour) (before after : List (List ℕ)) (old new : SinkState)
    (status : ℕ) : Type 0 where
  -- 0: the command is answered
  pub answered : status ≡ answer_status → WritesOne may.answers old.written new.written
  -- 2, 5, 6: the words, the script or one of its queries, or a table is refused for this reason
  pub refused : Contains finding_statuses status → TellsRefusal may old.written new.written status
  -- 3: the file named is one that the command reads, and the one read that failed is of it
  pub cannot_read : status ≡ read_status → (file : List ℕ) × may.reads file
      × OnlyFailed before after file
      × Appends old.written new.written (error_bytes (CannotRead file))
  -- 4: one write failed, after a prefix of a text of the command was written
  pub cannot_write : status ≡ write_status → CountedOne old.faults new.faults
      × ((text : List ℕ) × IsTextOf may before after text
      × AppendsPrefix old.written new.written text)
  -- 7: memory ran out
  pub memory : status ≡ memory_status → WritesOne (IsMemoryText may) old.written new.written
  -- there is no other status
  pub listed : Contains statuses status
  -- no write failed at a status other than 4
  pub no_write_fault : status ≢ write_status → new.faults ≡ old.faults
  -- no read failed at 0, 2, 5 and 6,
  pub no_read_fault : Contains (answer_status ∷ finding_statuses) status → after ≡ before
  -- and at any status at most one, of a file that the command reads
  pub read_faults : OneFaultAtMost may.reads before after
  -- if no count of faults rose, a command is answered that is accepted by what the files are known
  -- to hold, unless memory ran out,
  pub accepted : NoCountRose may.reads before after old.faults new.faults → sure.accepts
      → ((status ≡ answer_status) × WritesOne sure.answers old.written new.written)
      ⊎ (status ≡ memory_status)
  -- and one that they refuse ends with the status and the line of that refusal, unless memory ran
  -- out
  pub found : NoCountRose may.reads before after old.faults new.faults
      → (refusal : Refusal) → IsFinding refusal → sure.refuses refusal
      → ((status ≡ status_of refusal) × Appends old.written new.written (error_bytes refusal))
      ⊎ (status ≡ memory_status)
