-- What each command does, and what it gives.
use Rattle.std.specs.Prelude.{◌≡◌, ◌⊎◌, List, ℕ, Option, None, Some, String}
use Rattle.std.specs.Global.{Global}
use Rattle.pool_run.specs.declared.threads.ThreadRan.{ThreadRan}
use Rattle.pool_run.specs.Runs.{Course, threads}
use Rattle.sched_tool.specs.Behaviours.{Behaviour, usage_behaviour}
use Rattle.sched_tool.specs.CheckCommand.{check_behaviour}
use Rattle.sched_tool.specs.MakeCommand.{make_behaviour, summary_behaviour}
use Rattle.sched_tool.specs.Outsides.{Outside}
use Rattle.sched_tool.specs.ReadFaults.{FaultsAt}
use Rattle.sched_tool.specs.Requests.{asked}
use Rattle.sched_tool.specs.RunCommands.{order_behaviour, threads_behaviour}
use Rattle.sched_tool.specs.Statuses.{answer_status, memory_status}
use Rattle.sched_tool.specs.Words.{check, make, Meaning, run}
use Rattle.sched_tool.specs.declared.program.output.Output.{Output}
use Rattle.sched_tool.specs.declared.program.refusal.Refusal.{Refusal}

-- a run on one thread does this; one by threads is refused as words outside the grammar are
abbrev pub if_on_one_thread : Course → Behaviour → Behaviour
if_on_one_thread threads does = usage_behaviour
if_on_one_thread course does = does

-- a run by threads does this; one on one thread is refused as words outside the grammar are
abbrev pub if_by_threads : Course → Behaviour → Behaviour
if_by_threads threads does = does
if_by_threads course does = usage_behaviour

-- what `command` does by what words ask for; none if they are outside the grammar
abbrev pub behaviour_of : Outside → Option Meaning → Behaviour
behaviour_of outside None = usage_behaviour
behaviour_of outside (Some (check file)) = check_behaviour outside.holds file
behaviour_of outside (Some (run request)) =
    if_on_one_thread request.course (order_behaviour outside request)
behaviour_of outside (Some (make number None)) = summary_behaviour outside.gives number
behaviour_of outside (Some (make number (Some part))) = make_behaviour number part

-- what `command_run` does by what words ask for, and by what it leaves in `ran`
abbrev pub behaviour_by : Outside → Option ThreadRan → Option Meaning → Behaviour
behaviour_by outside ran (Some (run request)) =
    if_by_threads request.course (threads_behaviour outside ran request)
behaviour_by outside ran meaning = usage_behaviour

-- what `command` does by the words
abbrev pub behaviour_asked : Outside → List (String Global) → Behaviour
behaviour_asked outside words = behaviour_of outside (asked words)

-- what `command_run` does by the words, and by what it leaves in `ran`
abbrev pub behaviour_run : Outside → Option ThreadRan → List (String Global) → Behaviour
behaviour_run outside ran words = behaviour_by outside ran (asked words)

-- ---- what a command gives

-- a command gave a text, and no read met a fault: it answers the command whole, at the status of an
-- answer, or in part, at that of memory
pub record Gives (does : Behaviour) (old new : List (List ℕ)) (output : Output) : Type 0 where
  pub no_fault : new ≡ old
  pub text : ((output.status ≡ answer_status) × does.answers output.text.items)
      ⊎ ((output.status ≡ memory_status) × does.answers_in_part output.text.items)

-- a command gave up for this reason, and reads met the faults that go with it
pub record GivesUp (does : Behaviour) (old new : List (List ℕ)) (refusal : Refusal) : Type 0 where
  pub cause : does.refuses refusal
  pub faults : FaultsAt refusal old new
