use Rattle.std.proofs.Common.{◌<◌, ◌≡◌, ◌++◌, ◌∷◌, [], ap, length, ◌∙◌, arith}
use Rattle.plan_ast.specs.Answer.{answer_of}
use Rattle.plan_ast.specs.Checks.{query_of}
use Rattle.plan_ast.specs.declared.answers.Answer.{Answer}
use Rattle.report_text.specs.declared.replies.QueryReply.{QueryReply}
use Rattle.report_text.specs.declared.replies.Reply.TheVariants as reply
use Rattle.sched_tool.proofs.QueriesLemmas.{replies_of-more}
use Rattle.sched_tool.proofs.program.check.answer_queries.Goals as goal

pub loop-query-preserved : goal.loop-query-preserved
loop-query-preserved c =
    let lt : c.loop-query.query < length c.args.checked.now = omega arith in
    let next : QueryReply = record { query = c.loop-query.query; reply = reply.Answer c.in_ok-plain_answer.field-0 } in
    let items : c.push.new.self.items ≡ c.loop-query.replies.items ++ next ∷ [] = c.in_ok-push.ensures.items in
    let numbered : Answer → QueryReply = λ answer. record { query = c.loop-query.query; reply = reply.Answer answer } in
    let told : next ≡ numbered (answer_of c.args.tables.now (query_of c.index-checked-query.result)) = ap numbered c.in_ok-plain_answer.ensures in
    items ∙ ap (λ v. v ++ next ∷ []) c.loop-query.invariant
    ∙ replies_of-more c.args.tables.now c.args.checked.now c.loop-query.query c.index-checked-query.result next lt c.index-checked-query.is told
