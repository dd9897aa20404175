-- The runs of a subject, and their replies.
use Rattle.std.specs.Prelude.{◌≡◌, ◌⊎◌, ℕ, List, All, Any, length}
use Rattle.plan_ast.specs.Subject.{Subject}
use Rattle.report_text.specs.declared.replies.QueryReply.{QueryReply}
use Rattle.report_text.specs.declared.replies.Reply.{Reply}
use Rattle.report_text.specs.declared.replies.Reply.TheVariants.{Answer, Memory}
use Rattle.turn_model.specs.Workloads.{work_of}
use Rattle.pool_run.specs.Runs.{Asked, Course}
use Rattle.sched_tool.specs.Statuses.{answer_status, memory_status}
use Rattle.sched_tool.specs.Words.{Request}

-- ---- runs

-- a run of a subject by so many workers over so many slots, which follow one another in this way
abbrev pub asked_over : Subject → ℕ → ℕ → Course → Asked
asked_over subject workers slots course = record {
  shape = record { workers = workers; slots = slots; queries = length subject.queries };
  load = work_of subject;
  course = course;
}

-- a run of a subject as it is requested
abbrev pub requested : Request → Subject → Asked
requested request subject =
    asked_over subject request.workers request.slots request.course

-- ---- replies

abbrev pub IsAnswer : Reply → Type 0
IsAnswer (Answer answer) = Unit {0}
IsAnswer Memory = ⊥

-- each query is answered
abbrev pub AnswerAll : List QueryReply → Type 0
AnswerAll replies = All (λ (r : QueryReply). IsAnswer r.reply) replies

-- some query ran out of memory
abbrev pub LackAnswer : List QueryReply → Type 0
LackAnswer replies = Any (λ (r : QueryReply). r.reply ≡ Memory) replies

-- the status of an output says whether each query is answered
abbrev pub FitsReplies : ℕ → List QueryReply → Type 0
FitsReplies status replies = ((status ≡ answer_status) × AnswerAll replies)
    ⊎ ((status ≡ memory_status) × LackAnswer replies)
