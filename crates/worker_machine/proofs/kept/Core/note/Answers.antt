use Rattle.std.proofs.Common.{[], subst, arith}
use Rattle.worker_machine.proofs.Desks.{some-workers}
use Rattle.worker_machine.proofs.Steps.{noted-puts}
use Rattle.worker_machine.specs.Hands.{IsMade}
use Rattle.std.proofs.Common.{inl, refl}
use Rattle.worker_machine.proofs.Desks.{plan-of}
use Rattle.worker_machine.proofs.Moving.{moves-by, mind-on, place-made, keeps-on, shares-kept, answers-on}
use Rattle.worker_machine.proofs.FinishMoves.{note-ends, note-goes}
use Rattle.std.proofs.Common.{ap, ◌∙◌, unwrap_or}
use Rattle.std.specs.Arc.{arc_value}
use Rattle.slot_station.specs.declared.token.Holder.{Holder}
use Rattle.bench_cell.specs.declared.plan.Plan.{Plan}
use Rattle.worker_machine.specs.Loads.{load_of}
use Rattle.std.proofs.Common.{sym}
use Rattle.slot_history.specs.declared.act.Act.TheVariants.{NoteDone}
use Rattle.report_text.specs.declared.replies.Reply.TheVariants as reply
use Rattle.turn_model.specs.Points.{Point, after}
use Rattle.worker_machine.specs.Loads.{model_desk}
use Rattle.worker_machine.specs.declared.phase.Phase.TheVariants as phase
use Rattle.worker_machine.proofs.FinishMoves.{held-made}
use Rattle.worker_machine.proofs.Replying.{answered-at, reply_to}
use Rattle.worker_machine.proofs.Telling.{told-noted, told-replied}
use Rattle.worker_machine.proofs.kept.Core.note.Goals as goal

pub note_done-requires-clause-number : goal.note_done-requires-clause-number
note_done-requires-clause-number g c =
    let f = c.requires.follows in
    (omega arith, omega (arith, f.hand.1.low))

pub returns-in-None-clause-hand : goal.returns-in-None-clause-hand
returns-in-None-clause-hand g c =
    let old = g.S.Station.seen c.args.station.now in
    let f = c.requires.follows in
    noted-puts c.args.self.now.benches.items [] c.note_done.ensures.made f.hand.0 f.hand.1 f.hand.2
    (subst (IsMade old c.args.self.now.benches.items c.args.holder) c.in-None.is f.hand.3) c.note_done.ensures.same (some-workers c.args.self.now f.desk)

pub returns-in-None-clause-moves : goal.returns-in-None-clause-moves
returns-in-None-clause-moves g c =
    let old = g.S.Station.seen c.args.station.now in
    let made = subst (IsMade old c.args.self.now.benches.items c.args.holder) c.in-None.is c.requires.follows.hand.3 in
    moves-by c.note_done.ensures.made 0 (λ ms h.
    let goes = note-goes old c.args.holder ms c.requires.follows.hand.0 (place-made old ms h) c.args.self.now.benches.items made in
    record {
      may = (refl, inl refl);
      timed = refl;
      shares = h.shares;
      answers = h.answers;
      told = told-noted (model_desk old.desk) ms 1 (goes ∙ ap (λ (x : Point). after (model_desk old.desk) ms x (NoteDone 1)) h.point) refl refl refl h.told;
      knows = keeps-on h.knows refl;
      point = goes;
    })

pub returns-in-Some-clause-moves : goal.returns-in-Some-clause-moves
returns-in-Some-clause-moves g c =
    let old = g.S.Station.seen c.args.station.now in
    let f = c.requires.follows in
    let ends = subst (IsMade old c.args.self.now.benches.items c.args.holder) c.in-Some.is f.hand.3 in
    moves-by c.note_done.ensures.made 0 (λ ms h. record {
      may = (refl, inl refl);
      timed = refl;
      shares = shares-kept h.shares c.reply.ensures.mind.rest.shares;
      answers = answers-on (plan-of c.args.self.now c.requires.follows.desk) c.reply.ensures.answers h.answers;
      told = told-replied (model_desk old.desk) ms 1 old.trail c.args.self.now c.reply.new.self (phase.Note c.args.holder c.args.answer)
          (phase.FreeIt c.note_done.new.holder) (record {
            reply = reply_to c.note_done.new.holder (reply.Answer c.in-Some.answer);
            at = answered-at old.desk.subject c.args.holder c.note_done.new.holder _ c.in-Some.answer c.note_done.ensures.same
                (held-made old c.args.holder ms f.hand.0 (place-made old ms h)) f.hand.1.query ends;
            room = c.reply.ensures.room;
            pushed = c.reply.ensures.pushed;
            records = c.reply.ensures.records;
          }) (λ q e. absurd (cc)) h.told
          (sym (note-ends old c.args.holder ms f.hand.0 (place-made old ms h) c.in-Some.answer ends
          ∙ ap (λ (x : Point). after (model_desk old.desk) ms x (NoteDone 1)) h.point));
      knows = mind-on h.knows c.reply.ensures.mind refl;
      point = note-ends old c.args.holder ms f.hand.0 (place-made old ms h) c.in-Some.answer ends;
    })

pub reply-requires : goal.reply-requires
reply-requires g c =
    let old = g.S.Station.seen c.args.station.now in
    let f = c.requires.follows in
    let ends = subst (IsMade old c.args.self.now.benches.items c.args.holder) c.in-Some.is f.hand.3 in
    ap (λ (x : Holder). (load_of (arc_value c.args.self.now.plan)).answer (unwrap_or x.query 0)) c.note_done.ensures.same
    ∙ ap (λ (p : Plan). (load_of p).answer (unwrap_or c.args.holder.query 0)) (plan-of c.args.self.now f.desk) ∙ ends.answer_is
