use Rattle.std.proofs.Common.{◌≡◌, arith, subst, take_all}
use Rattle.std.proofs.lemmas.List.Elements.{All-more}
use Rattle.std.specs.Prelude.{MatchBool}
use Rattle.report_text.specs.declared.replies.QueryReply.{QueryReply}
use Rattle.report_text.specs.declared.replies.Reply.TheVariants.{Memory}
use Rattle.sched_tool.specs.Runs.{AnswerAll, IsAnswer}
use Rattle.sched_tool.proofs.program.output.lack_answer.Goals as goal

pub loop-told-preserved : goal.loop-told-preserved
loop-told-preserved c =
    let told = c.told-item.result in
    let answer : IsAnswer told.reply = subst (λ b. MatchBool b (told.reply ≡ Memory) (IsAnswer told.reply)) c.if-says_memory.false c.says_memory.ensures in
    All-more (λ (r : QueryReply). IsAnswer r.reply) c.args.replies.now c.loop-told.told-index told (omega arith) c.loop-told.invariant
    (subst (λ (r : QueryReply). IsAnswer r.reply) c.told-item.is answer)

pub returns : goal.returns
returns c = subst AnswerAll (take_all c.loop-told.told-index c.args.replies.now (omega arith)) c.loop-told.invariant
