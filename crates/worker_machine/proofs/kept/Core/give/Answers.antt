use Rattle.std.proofs.Common.{◌≡◌, ℕ, ◌-◌, unwrap_or, refl, sym, ap, ap₂, ◌∙◌}
use Rattle.worker_machine.specs.Loads.{load_of, model_desk}
use Rattle.bench_cell.specs.declared.plan.Plan.{Plan}
use Rattle.worker_machine.proofs.Desks.{plan-of}
use Rattle.worker_machine.proofs.Giving.{gives-up, ends-all, may-give, given}
use Rattle.worker_machine.proofs.Moving.{moves-by, mind-on, shares-kept, answers-on}
use Rattle.slot_history.specs.declared.act.Act.TheVariants.{NoteDone}
use Rattle.slot_station.specs.declared.token.Holder.{Holder}
use Rattle.report_text.specs.declared.replies.Reply.TheVariants as reply
use Rattle.turn_model.specs.Points.{Point, after}
use Rattle.worker_machine.specs.declared.phase.Phase.TheVariants as phase
use Rattle.worker_machine.proofs.Moving.{place-made}
use Rattle.worker_machine.proofs.FinishMoves.{held-made}
use Rattle.worker_machine.proofs.Replying.{given-up-at, gives-query, reply_to}
use Rattle.worker_machine.proofs.Telling.{told-replied}
use Rattle.worker_machine.proofs.kept.Core.give.Goals as goal

pub returns-clause-moves : goal.returns-clause-moves
returns-clause-moves g c =
    let f = c.requires.follows in
    let old = g.S.Station.seen c.args.station.now in
    let x = c.args.holder in
    let rest : c.stages-all.result - x.stage ≡ (load_of old.desk.subject).stages (unwrap_or x.query 0) - x.stage =
    ap (λ n. n - x.stage) (c.stages-all.ensures.count ∙ sym c.query_of.ensures.stages
    ∙ ap₂ (λ (p : Plan) (q : ℕ). (load_of p).stages q) (c.deref.ensures ∙ plan-of c.args.self.now f.desk) c.unwrap_or.ensures) in
    moves-by c.note_done.ensures.made 0 (λ ms h. record {
      may = may-give (model_desk old.desk) ms _ (gives-up old x ms h f.hand.0 _ rest) x.again;
      timed = refl;
      shares = shares-kept h.shares c.reply.ensures.mind.rest.shares;
      answers = answers-on (plan-of c.args.self.now c.requires.follows.desk) c.reply.ensures.answers h.answers;
      told = told-replied (model_desk old.desk) ms (c.stages-all.result - x.stage) old.trail c.args.self.now c.reply.new.self (phase.Give x)
          (phase.FreeIt c.note_done.new.holder) (record {
            reply = reply_to c.note_done.new.holder reply.Memory;
            at = given-up-at old.desk.subject x c.note_done.new.holder _ c.note_done.ensures.same
                (held-made old x ms f.hand.0 (place-made old ms h)) f.hand.1.query;
            room = c.reply.ensures.room;
            pushed = c.reply.ensures.pushed;
            records = c.reply.ensures.records;
          }) (λ q e. (ap (λ (y : Holder). unwrap_or y.query 0) c.note_done.ensures.same ∙ gives-query x.again x.query q e, refl)) h.told
          (sym (given (model_desk old.desk) ms _ (gives-up old x ms h f.hand.0 _ rest) x.again (ends-all old x ms h f.hand.0 _ rest)
          ∙ ap (λ (y : Point). after (model_desk old.desk) ms y (NoteDone (c.stages-all.result - x.stage))) h.point));
      knows = mind-on h.knows c.reply.ensures.mind refl;
      point = given (model_desk old.desk) ms _ (gives-up old x ms h f.hand.0 _ rest) x.again (ends-all old x ms h f.hand.0 _ rest);
    })
