-- The laws of the behaviour of each command, on which the proofs of `command` and `command_run` rest.
use Rattle.std.proofs.Common.{◌≡◌, ℕ, List, Option, None, Some, ap, inl, inr, refl, subst, sym, ◌∙◌}
use Rattle.load_gen.specs.declared.parts.Part.{Part}
use Rattle.plan_ast.specs.Subject.{Subject}
use Rattle.report_text.specs.declared.replies.QueryReply.{QueryReply}
use Rattle.pool_run.specs.Runs.{Course, moves, RanBy, ReportsBy, threads, turns}
use Rattle.pool_run.specs.declared.threads.ThreadRan.{ThreadRan}
use Rattle.sched_tool.specs.Behaviours.{Behaviour, IsUsageRefused, usage_behaviour}
use Rattle.sched_tool.specs.CheckCommand.{check_behaviour, check_text}
use Rattle.sched_tool.specs.Commands.{behaviour_by, behaviour_of, GivesUp, if_by_threads, if_on_one_thread}
use Rattle.sched_tool.specs.MakeCommand.{IsMemoryRefused, IsSummaryText, make_behaviour, summary_behaviour}
use Rattle.sched_tool.specs.Requests.{IsUnread}
use Rattle.sched_tool.specs.RunCommands.{IsReportText, IsRunOf, IsRunText, order_behaviour, run_behaviour, threads_behaviour}
use Rattle.sched_tool.specs.Runs.{AnswerAll, requested}
use Rattle.sched_tool.specs.Outsides.{Contents, known, Outside, surely_holds}
use Rattle.sched_tool.specs.Subjects.{IsAccepted}
use Rattle.sched_tool.specs.Verdicts.{OneVerdict, OneVerdictByThreads}
use Rattle.sched_tool.specs.Words.{check, make, Meaning, Request, run}
use Rattle.sched_tool.specs.Writing.{IsFinding}
use Rattle.sched_tool.specs.declared.program.refusal.Refusal.{Refusal}
use Rattle.sched_tool.specs.declared.program.refusal.Refusal.TheVariants.{Usage, CannotRead, Script, Table, OutOfMemory}
use Rattle.sched_tool.proofs.OutsideLemmas.{Agree, Agree-known, SameFiles, SameFiles-known}
use Rattle.sched_tool.proofs.UniqueLemmas.{accepted_not_refused, same_refusal, subject_is}

-- the laws of a behaviour over one outside
pub record IsSound (does : Behaviour) : Type 0 where
  -- an answer is one of an accepted command
  pub accepted : (text : List ℕ) → does.answers text → does.accepts
  -- a file that can't be read is one that is read
  pub reads : (file : List ℕ) → does.refuses (CannotRead file) → does.reads file

-- the laws of the behaviours of one command over two outsides that agree
pub record AreConsistent (a b : Behaviour) : Type 0 where
  -- the answer to an accepted command is the same
  pub one : a.accepts → (text : List ℕ) → b.answers text → a.answers text
  -- acceptance and refusal exclude each other
  pub apart : a.accepts → (r : Refusal) → IsFinding r → b.refuses r → ⊥
  -- a refusal is the only one
  pub only : (r s : Refusal) → IsFinding r → IsFinding s → a.refuses r → b.refuses s → r ≡ s

only_usage : (r : Refusal) → IsFinding r → IsUsageRefused r → r ≡ Usage
only_usage Usage finding h = refl
only_usage (CannotRead file) finding h = elim h [ ]
only_usage (Script fault) finding h = elim h [ ]
only_usage (Table file fault) finding h = elim h [ ]
only_usage OutOfMemory finding h = elim finding [ ]

usage_sound : IsSound usage_behaviour
usage_sound = record { accepted = λ text answers. answers; reads = λ file refuses. refuses }

usage_consistent : AreConsistent usage_behaviour usage_behaviour
usage_consistent = record {
  one = λ accepts text answers. answers;
  apart = λ accepts r finding refuses. accepts;
  only = λ r s x y h k. only_usage r x h ∙ sym (only_usage s y k);
}

check_sound : (holds : Contents) (file : List ℕ) → IsSound (check_behaviour holds file)
check_sound holds file = record { accepted = λ text answers. (answers.0, answers.1); reads = λ name refuses. refuses }

check_consistent : (a b : Contents) → SameFiles a b → (file : List ℕ) → AreConsistent (check_behaviour a file) (check_behaviour b file)
check_consistent a b same file = record {
  one = λ accepts text answers. (
    accepts.0,
    accepts.1,
    answers.2
        ∙ ap check_text (sym (subject_is a b same file accepts.0 answers.0 accepts.1.held answers.1.held)),
  );
  apart = λ accepts r finding refuses. accepted_not_refused a b same file accepts.0 r accepts.1 finding refuses;
  only = λ r s x y h k. same_refusal a b same file r s x y h k;
}

-- ---- runs

-- the file holds an accepted script
abbrev Accepts : Contents → List ℕ → Type 0
Accepts holds file = (subject : Subject) × IsAccepted holds file subject

run_sound : (holds : Contents) (file : List ℕ) (IsText : (List QueryReply → Type 0) → List ℕ → Type 0)
    → ((text : List ℕ) → IsText AnswerAll text → Accepts holds file) → IsSound (run_behaviour holds file IsText)
run_sound holds file IsText accepted = record { accepted = accepted; reads = λ name refuses. refuses }

run_consistent : (a b : Contents) → SameFiles a b → (file : List ℕ) (IsA IsB : (List QueryReply → Type 0) → List ℕ → Type 0)
    → (Accepts a file → (text : List ℕ) → IsB AnswerAll text → IsA AnswerAll text) → AreConsistent (run_behaviour a file IsA) (run_behaviour b file IsB)
run_consistent a b same file IsA IsB one = record {
  one = one;
  apart = λ accepts r finding refuses. accepted_not_refused a b same file accepts.0 r accepts.1 finding refuses;
  only = λ r s x y h k. same_refusal a b same file r s x y h k;
}

-- a report of the same run, if the files hold the same and the meter may give the same times
same_report : (a b : Outside) → Agree a b → (request : Request) → Accepts a.holds request.script → (text : List ℕ)
    → IsReportText b request AnswerAll text → IsReportText a request AnswerAll text
same_report a b agree request accepts text answers =
    let same = subject_is a.holds b.holds agree.files request.script accepts.0 answers.subject accepts.1.held answers.accepted.held in
    let of_subject = subst (λ subject. ReportsBy b.gives (requested request subject) answers.report) (sym same) answers.left in
    record {
      subject = accepts.0;
      accepted = accepts.1;
      report = answers.report;
      left = subst (λ times. ReportsBy times (requested request accepts.0) answers.report) (sym agree.times) of_subject;
      replies = answers.replies;
      bytes = answers.bytes;
    }

order_sound : (outside : Outside) (request : Request) → IsSound (order_behaviour outside request)
order_sound outside request =
    run_sound outside.holds request.script (IsReportText outside request) (λ text answers. (answers.subject, answers.accepted))

order_consistent : (a b : Outside) → Agree a b → (request : Request) → AreConsistent (order_behaviour a request) (order_behaviour b request)
order_consistent a b agree request =
    run_consistent a.holds b.holds agree.files request.script (IsReportText a request) (IsReportText b request) (same_report a b agree request)

-- the same run by threads
same_run : (a b : Outside) → Agree a b → (request : Request) → Accepts a.holds request.script → (left : ThreadRan) → IsRunOf b request left
    → IsRunOf a request left
same_run a b agree request accepts left of =
    let same = subject_is a.holds b.holds agree.files request.script accepts.0 of.subject accepts.1.held of.accepted.held in
    let of_subject = subst (λ subject. RanBy b.gives (requested request subject) left.report left.joined.history left.times.items) (sym same) of.ran in
    record {
      by_threads = of.by_threads;
      subject = accepts.0;
      accepted = accepts.1;
      ran = subst (λ times. RanBy times (requested request accepts.0) left.report left.joined.history left.times.items) (sym agree.times) of_subject;
    }

threads_sound : (outside : Outside) (ran : Option ThreadRan) (request : Request) → IsSound (threads_behaviour outside ran request)
threads_sound outside ran request =
    run_sound outside.holds request.script (IsRunText outside request ran) (λ text answers. (answers.run.subject, answers.run.accepted))

threads_consistent : (a b : Outside) → Agree a b → (ran : Option ThreadRan) (request : Request)
    → AreConsistent (threads_behaviour a ran request) (threads_behaviour b ran request)
threads_consistent a b agree ran request =
    run_consistent a.holds b.holds agree.files request.script (IsRunText a request ran) (IsRunText b request ran)
    (λ accepts text answers. record {
      left = answers.left;
      is = answers.is;
      run = same_run a b agree request accepts answers.left answers.run;
      replies = answers.replies;
      bytes = answers.bytes;
    })

-- ---- `make`

make_sound : (number : ℕ) (part : Part) → IsSound (make_behaviour number part)
make_sound number part = record { accepted = λ text answers. tt; reads = λ file refuses. refuses }

not_memory : (r : Refusal) → IsFinding r → IsMemoryRefused r → ⊥
not_memory Usage finding h = h
not_memory (CannotRead file) finding h = h
not_memory (Script fault) finding h = h
not_memory (Table file fault) finding h = h
not_memory OutOfMemory finding h = finding

make_consistent : (number : ℕ) (part : Part) → AreConsistent (make_behaviour number part) (make_behaviour number part)
make_consistent number part = record {
  one = λ accepts text answers. answers;
  apart = λ accepts r finding refuses. not_memory r finding refuses;
  only = λ r s x y h k. absurd (not_memory r x h);
}

summary_sound : (times : ℕ → ℕ → ℕ → Type 0) (number : ℕ) → IsSound (summary_behaviour times number)
summary_sound times number = record { accepted = λ text answers. tt; reads = λ file refuses. refuses }

summary_consistent : (a b : Outside) → Agree a b → (number : ℕ) → AreConsistent (summary_behaviour a.gives number) (summary_behaviour b.gives number)
summary_consistent a b agree number = record {
  one = λ accepts text answers. subst (λ times. IsSummaryText times number AnswerAll text) (sym agree.times) answers;
  apart = λ accepts r finding refuses. not_memory r finding refuses;
  only = λ r s x y h k. absurd (not_memory r x h);
}

-- ---- all commands

abbrev pub IsOnOneThread : Course → Type 0
IsOnOneThread threads = ⊥
IsOnOneThread course = Unit {0}

-- what holds of words outside the grammar, and of a run on one thread, holds of the run if it is one
one_thread : (P : Behaviour → Behaviour → Type 0) → P usage_behaviour usage_behaviour → (course : Course) (a b : Behaviour)
    → (IsOnOneThread course → P a b) → P (if_on_one_thread course a) (if_on_one_thread course b)
one_thread P usage (turns order) a b does = does tt
one_thread P usage (moves order) a b does = does tt
one_thread P usage threads a b does = usage

-- and if it is by threads
by_threads : (P : Behaviour → Behaviour → Type 0) → P usage_behaviour usage_behaviour → (course : Course) (a b : Behaviour) → P a b
    → P (if_by_threads course a) (if_by_threads course b)
by_threads P usage (turns order) a b does = usage
by_threads P usage (moves order) a b does = usage
by_threads P usage threads a b does = does

-- what holds of the behaviours of each command over two outsides holds of those of any words
pub by_command : (a b : Outside) (P : Behaviour → Behaviour → Type 0) → P usage_behaviour usage_behaviour
    → ((file : List ℕ) → P (check_behaviour a.holds file) (check_behaviour b.holds file))
    → ((request : Request) → IsOnOneThread request.course → P (order_behaviour a request) (order_behaviour b request))
    → ((number : ℕ) → P (summary_behaviour a.gives number) (summary_behaviour b.gives number))
    → ((number : ℕ) (part : Part) → P (make_behaviour number part) (make_behaviour number part)) → (meaning : Option Meaning)
    → P (behaviour_of a meaning) (behaviour_of b meaning)
by_command a b P usage checks runs summaries parts None = usage
by_command a b P usage checks runs summaries parts (Some (check file)) = checks file
by_command a b P usage checks runs summaries parts (Some (run request)) =
    one_thread P usage request.course (order_behaviour a request) (order_behaviour b request) (runs request)
by_command a b P usage checks runs summaries parts (Some (make number None)) = summaries number
by_command a b P usage checks runs summaries parts (Some (make number (Some part))) = parts number part

-- and so does what holds of those of runs by threads
by_run : (a b : Outside) (ran : Option ThreadRan) (P : Behaviour → Behaviour → Type 0) → P usage_behaviour usage_behaviour
    → ((request : Request) → P (threads_behaviour a ran request) (threads_behaviour b ran request)) → (meaning : Option Meaning)
    → P (behaviour_by a ran meaning) (behaviour_by b ran meaning)
by_run a b ran P usage runs None = usage
by_run a b ran P usage runs (Some (check file)) = usage
by_run a b ran P usage runs (Some (run request)) =
    by_threads P usage request.course (threads_behaviour a ran request) (threads_behaviour b ran request) (runs request)
by_run a b ran P usage runs (Some (make number part)) = usage

-- the behaviour of each command is sound
pub sound : (outside : Outside) (meaning : Option Meaning) → IsSound (behaviour_of outside meaning)
sound outside =
    by_command outside outside (λ does _. IsSound does) usage_sound (check_sound outside.holds) (λ request _. order_sound outside request)
    (summary_sound outside.gives) make_sound

pub sound_by : (outside : Outside) (ran : Option ThreadRan) (meaning : Option Meaning) → IsSound (behaviour_by outside ran meaning)
sound_by outside ran = by_run outside outside ran (λ does _. IsSound does) usage_sound (threads_sound outside ran)

-- and consistent over outsides that agree
pub consistent : (a b : Outside) → Agree a b → (meaning : Option Meaning) → AreConsistent (behaviour_of a meaning) (behaviour_of b meaning)
consistent a b agree =
    by_command a b AreConsistent usage_consistent (check_consistent a.holds b.holds agree.files)
    (λ request _. order_consistent a b agree request)
    (summary_consistent a b agree) make_consistent

pub consistent_by : (a b : Outside) → Agree a b → (ran : Option ThreadRan) (meaning : Option Meaning)
    → AreConsistent (behaviour_by a ran meaning) (behaviour_by b ran meaning)
consistent_by a b agree ran = by_run a b ran AreConsistent usage_consistent (threads_consistent a b agree ran)

pub one_verdict : (times : ℕ → ℕ → ℕ → Type 0) → OneVerdict times
one_verdict times content meaning =
    let outside = known content times in
    let same = consistent outside outside (Agree-known content times) meaning in
    record { apart = same.apart; only = same.only }

pub one_verdict_by_threads : (times : ℕ → ℕ → ℕ → Type 0) → OneVerdictByThreads times
one_verdict_by_threads times content ran meaning =
    let outside = known content times in
    let same = consistent_by outside outside (Agree-known content times) ran meaning in
    record { apart = same.apart; only = same.only }

-- ---- words that are not read

-- each command may run out of memory
memory_refused : (outside : Outside) (meaning : Option Meaning) → (behaviour_of outside meaning).refuses OutOfMemory
memory_refused outside =
    by_command outside outside (λ does _. does.refuses OutOfMemory) tt (λ file. tt) (λ request _. tt) (λ number. tt) (λ number part. tt)

memory_refused_by : (outside : Outside) (ran : Option ThreadRan) (meaning : Option Meaning) → (behaviour_by outside ran meaning).refuses OutOfMemory
memory_refused_by outside ran = by_run outside outside ran (λ does _. does.refuses OutOfMemory) tt (λ request. tt)

unread_by : (does : Option Meaning → Behaviour) → (does None).refuses Usage → ((meaning : Option Meaning) → (does meaning).refuses OutOfMemory)
    → (meaning : Option Meaning) (refusal : Refusal) (failed : List (List ℕ)) → IsUnread meaning refusal → GivesUp (does meaning) failed failed refusal
unread_by does usage memory meaning refusal failed (inl none) =
    subst (λ r. GivesUp (does meaning) failed failed r) (sym none.0)
    (record { cause = subst (λ m. (does m).refuses Usage) (sym none.1) usage; faults = refl })
unread_by does usage memory meaning refusal failed (inr out) =
    subst (λ r. GivesUp (does meaning) failed failed r) (sym out) (record { cause = memory meaning; faults = refl })

-- a command gives up at words that are not read
pub unread : (outside : Outside) (meaning : Option Meaning) (refusal : Refusal) (failed : List (List ℕ)) → IsUnread meaning refusal
    → GivesUp (behaviour_of outside meaning) failed failed refusal
unread outside = unread_by (behaviour_of outside) tt (memory_refused outside)

pub unread_run : (outside : Outside) (ran : Option ThreadRan) (meaning : Option Meaning) (refusal : Refusal) (failed : List (List ℕ))
    → IsUnread meaning refusal → GivesUp (behaviour_by outside ran meaning) failed failed refusal
unread_run outside ran = unread_by (behaviour_by outside ran) tt (memory_refused_by outside ran)
