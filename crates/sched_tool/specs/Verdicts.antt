-- At most one text of a command, or one refusal of it.
use Rattle.std.specs.Prelude.{◌≡◌, ℕ, List, Option, Some}
use Rattle.pool_run.specs.declared.threads.ThreadRan.{ThreadRan}
use Rattle.run_laws.specs.Agreeing.{takes}
use Rattle.sched_tool.specs.Behaviours.{Behaviour}
use Rattle.sched_tool.specs.Commands.{behaviour_by, behaviour_of}
use Rattle.sched_tool.specs.Outsides.{known}
use Rattle.sched_tool.specs.Words.{Meaning}
use Rattle.sched_tool.specs.Writing.{IsFinding}
use Rattle.sched_tool.specs.declared.program.refusal.Refusal.{Refusal}

-- `command` has at most one text, if the contents of the files are known, each range
-- takes a known time by its tuples and its query's cost, and no query runs out of memory.
abbrev pub OneText : Type 0
OneText = (time : ℕ → ℕ → ℕ) (content : List ℕ → Option (List ℕ)) (meaning : Option Meaning)
    (one other : List ℕ)
    → (behaviour_of (known content (takes time)) meaning).answers one
    → (behaviour_of (known content (takes time)) meaning).answers other → one ≡ other

-- what is accepted isn't refused, and what is refused has one reason; a fault or memory is none
pub record HasOneVerdict (does : Behaviour) : Type 0 where
  pub apart : does.accepts → (refusal : Refusal) → IsFinding refusal → does.refuses refusal → ⊥
  pub only : (one other : Refusal) → IsFinding one → IsFinding other
      → does.refuses one → does.refuses other → one ≡ other

-- each command on one thread has one verdict if the contents of the files are known
abbrev pub OneVerdict : (ℕ → ℕ → ℕ → Type 0) → Type 0
OneVerdict times = (content : List ℕ → Option (List ℕ)) (meaning : Option Meaning)
    → HasOneVerdict (behaviour_of (known content times) meaning)

-- and so has each by threads, whatever it leaves in `ran`
abbrev pub OneVerdictByThreads : (ℕ → ℕ → ℕ → Type 0) → Type 0
OneVerdictByThreads times = (content : List ℕ → Option (List ℕ)) (ran : Option ThreadRan)
    (meaning : Option Meaning) → HasOneVerdict (behaviour_by (known content times) ran meaning)
