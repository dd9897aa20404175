-- The replies of a worker are right.
use Rattle.std.specs.Prelude.{List, All}
use Rattle.report_text.specs.declared.replies.QueryReply.{QueryReply}
use Rattle.turn_model.specs.Reports.{IsReplyTo}
use Rattle.bench_cell.specs.declared.plan.Plan.{Plan}
use Rattle.worker_machine.specs.Loads.{load_of}

-- each reply is the one-thread answer of its query, or says that memory ran out
pub record AreAnswers (plan : Plan) (replies : List QueryReply) : Type 0 where
  pub each : All (λ (r : QueryReply). IsReplyTo (load_of plan) r.query r.reply) replies
