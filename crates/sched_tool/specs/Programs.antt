-- The program from its words to its end.
use Rattle.std.specs.Prelude.{ℕ, Bool, false, List, [], ◌∷◌, Option, String, bytes_eq, codes}
use Rattle.std.specs.Global.{Global}
use Rattle.std.specs.String.{string_bytes}
use Rattle.pool_run.specs.declared.threads.ThreadRan.{ThreadRan}
use Rattle.sched_tool.specs.Commands.{behaviour_run}
use Rattle.sched_tool.specs.Outsides.{known, possible}
use Rattle.sched_tool.specs.Promises.{EndsRightly}
use Rattle.sched_tool.specs.Requests.{asked}
use Rattle.sched_tool.specs.RunCommands.{IsRunAsked}
use Rattle.sched_tool.specs.Writing.{SinkState}
use Rattle.sched_tool.specs.declared.program.Ended.{Ended}
use Rattle.sched_tool.specs.declared.program.given.GivenWords.{GivenWords}
use Rattle.sched_tool.specs.declared.program.given.GivenWords.TheVariants.{Words, NotText}
use Rattle.sched_tool.specs.declared.program.given.GivenWords.TheVariants.{OutOfMemory}

-- the status with which the program ends
abbrev pub end_status : Ended → ℕ
end_status ended = ended.status

-- the words that the process was given; none if they are not text or could not be read
abbrev pub words_in : GivenWords → List (String Global)
words_in (Words words) = words.items
words_in NotText = []
words_in OutOfMemory = []

-- the first word is `run`
abbrev pub asks_for_run : List (String Global) → Bool
asks_for_run [] = false
asks_for_run (first ∷ rest) = bytes_eq (string_bytes first) (codes "run")

-- what a command by threads promises of its end: as `EndsRightly` says it of the run that it made,
-- if it made one
pub record EndsRun (content : List ℕ → Option (List ℕ)) (times : ℕ → ℕ → ℕ → Type 0)
    (words : List (String Global)) (before after : List (List ℕ)) (old new : SinkState)
    (status : ℕ) : Type 0 where
  pub ran : Option ThreadRan
  pub is_asked : IsRunAsked (possible content times) (asked words) ran
  pub ends : EndsRightly (behaviour_run (possible content times) ran words)
      (behaviour_run (known content times) ran words) before after old new status
