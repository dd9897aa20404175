use Rattle.std.proofs.Common.{ℕ, [], ◌∷◌, ◌++◌, if◌then◌else◌, sym, ap, ◌∙◌, subst, arith}
use Rattle.report_text.specs.declared.replies.QueryReply.{QueryReply}
use Rattle.std.specs.Arc.{arc_value}
use Rattle.turn_model.specs.Reports.{IsReplyTo}
use Rattle.worker_machine.specs.Loads.{load_of}
use Rattle.worker_machine.proofs.Moving.{one-answer-more}
use Rattle.report_text.specs.declared.replies.Reply.{Reply}
use Rattle.worker_machine.proofs.kept.Core.reply.Goals as goal

pub returns-clause-answers : goal.returns-clause-answers
returns-clause-answers c =
    one-answer-more (record { query = c.unwrap_or-query.result; reply = c.args.reply }) _ c.push-room.ensures.items
    (subst (λ q. IsReplyTo (load_of (arc_value c.args.self.now.plan)) q c.args.reply) (sym c.unwrap_or-query.ensures) c.requires)

abbrev asked-for : ℕ → Reply → QueryReply
asked-for query reply = record { query = query; reply = reply }

pub returns-clause-pushed : goal.returns-clause-pushed
returns-clause-pushed c few =
    let was = c.args.self.now.replies in
    let len = was.ok.0 in
    c.push-room.ensures.items
    ∙ ap (λ b. if b then was.items ++ asked-for c.unwrap_or-query.result c.args.reply ∷ [] else was.items)
    (c.push-room.ensures.succeeds (omega (arith, few, len)))
    ∙ ap (λ q. was.items ++ asked-for q c.args.reply ∷ []) c.unwrap_or-query.ensures
