-- What words that are read ask for.
use Rattle.std.specs.Prelude.{◌≡◌, ◌≤◌, ◌<◌, ◌⊎◌, ℕ, List, All, length, map, Option, None, String}
use Rattle.std.specs.Global.{Global}
use Rattle.std.specs.String.{string_bytes}
use Rattle.slot_history.specs.declared.shape.TheConstants.{MOST_SLOTS, MOST_WORKERS}
use Rattle.pool_run.specs.Runs.{Course, moves, order_of, threads, turns}
use Rattle.pool_run.specs.declared.runs.TheConstants.{MOST_NUMBERS}
use Rattle.sched_tool.specs.Words.{Request, check, make, Meaning, meaning_of, run}
use Rattle.sched_tool.specs.declared.program.refusal.Refusal.{Refusal}
use Rattle.sched_tool.specs.declared.program.refusal.Refusal.TheVariants.{Usage, OutOfMemory}
use Rattle.sched_tool.specs.declared.program.request.Course.{Course as ReadCourse}
use Rattle.sched_tool.specs.declared.program.request.Course.TheVariants.{Turns, Steps, Threads}
use Rattle.sched_tool.specs.declared.program.request.Request.{Request as ReadRequest}
use Rattle.sched_tool.specs.declared.program.words.Command.{Command}
use Rattle.sched_tool.specs.declared.program.words.Command.TheVariants.{Check, Make, Run}

-- what a list of words asks for; none if it is outside the grammar
abbrev pub asked : List (String Global) → Option Meaning
asked words = meaning_of (map string_bytes words)

-- how the workers of a run that was read follow one another
abbrev pub course_of : ReadCourse → Course
course_of (Turns order) = turns order.items
course_of (Steps order) = moves order.items
course_of Threads = threads

-- the run that was read
abbrev pub request_of : ReadRequest → Request
request_of told = record {
  script = told.script.now;
  workers = told.workers;
  slots = told.slots;
  course = course_of told.course;
}

-- what a command asks for
abbrev pub asked_by : Command → Meaning
asked_by (Check file) = check file.now
asked_by (Run told) = run (request_of told)
asked_by (Make number part) = make number part

-- an order is one of at most so many of these workers
abbrev pub IsOrder : ℕ → List ℕ → Type 0
IsOrder workers order =
    All (λ worker. worker < workers) order × (length order ≤ MOST_NUMBERS)

-- the numbers of a run are within their limits, and its order, if it has one, is one of its workers
pub record IsRunnable (request : Request) : Type 0 where
  pub workers : (1 ≤ request.workers) × (request.workers ≤ MOST_WORKERS)
  pub slots : (1 ≤ request.slots) × (request.slots ≤ MOST_SLOTS)
  pub order : IsOrder request.workers (order_of request.course)

-- if a command asks for a run, it can begin
abbrev pub CanRun : Command → Type 0
CanRun (Run told) = IsRunnable (request_of told)
CanRun command = Unit {0}

-- words are not read: they have no meaning, or memory ran out
abbrev pub IsUnread : {A : Type 0} → Option A → Refusal → Type 0
IsUnread meaning refusal = ((refusal ≡ Usage) × (meaning ≡ None)) ⊎ (refusal ≡ OutOfMemory)
