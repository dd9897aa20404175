use Rattle.std.proofs.Common.{◌<◌, cond, refl, sym, ap, ◌∙◌, subst}
use Rattle.turn_model.specs.Points as point
use Rattle.worker_machine.specs.Loads.{model_desk}
use Rattle.worker_machine.specs.declared.phase.Phase.TheVariants as Phase
use Rattle.worker_machine.proofs.Moving.{quiet-by}
use Rattle.worker_machine.proofs.Picking.{due-by, pick-knows, pick-point}
use Rattle.slot_station.specs.Desks.{Desk}
use Rattle.bench_cell.specs.declared.plan.Plan.{Plan}
use Rattle.worker_machine.proofs.Calls.{place-by, carry}
use Rattle.worker_machine.proofs.Outcomes.{picked-hand}
use Rattle.worker_machine.proofs.Telling.{picked-gives}
use Rattle.worker_machine.proofs.kept.Core.arrive.Goals as goal

pub returns-then-is_due-clause-hand : goal.returns-then-is_due-clause-hand
returns-then-is_due-clause-hand g c =
    let f = c.requires.follows in (
      place-by c.arrivals-self.ensures.made f.hand,
      carry c.arrivals-self.ensures.made (λ (D : Desk Plan). 0 < D.shape.slots)
          (subst (λ (x : Desk Plan). 0 < x.shape.slots) f.desk c.args.self.now.few_slots.0),
    )

pub returns-else-is_due-clause-hand : goal.returns-else-is_due-clause-hand
returns-else-is_due-clause-hand g c =
    let f = c.requires.follows in
    let m = c.arrivals-self.ensures.made in
    picked-hand (g.S.Station.seen c.arrivals-self.new.self) _ c.args.self.now.slots c.pick.result c.pick.ensures.picked (place-by m f.hand)
    (ap (λ (D : Desk Plan). D.shape.slots) (f.desk ∙ sym m.desk))

pub returns-then-is_due-clause-moves : goal.returns-then-is_due-clause-moves
returns-then-is_due-clause-moves g c =
    let f = c.requires.follows in
    let old = g.S.Station.seen c.args.station.now in
    quiet-by c.arrivals-self.ensures.made (λ ms. (refl, refl, refl)) (refl, refl, refl) refl (λ ms h. (
      tt,
      record {
        strides = h.knows.strides;
        finished = h.knows.finished;
        arrived = refl;
        times = h.knows.times;
        slots = h.knows.slots;
      },
      sym (ap (λ b. cond b (point.Scan 0) (point.pick (model_desk old.desk) ms))
          (due-by c.arrivals-self.result f.desk c.is_due.ensures.due h.knows.finished ∙ c.if-is_due.true)),
    ))

pub returns-else-is_due-clause-moves : goal.returns-else-is_due-clause-moves
returns-else-is_due-clause-moves g c =
    let f = c.requires.follows in
    let old = g.S.Station.seen c.args.station.now in
    quiet-by c.arrivals-self.ensures.made (λ ms. (refl, refl, refl))
    (c.pick.ensures.picks.rest.shares, c.pick.ensures.replies, c.pick.ensures.records) (picked-gives _ c.pick.result c.pick.ensures.picked) (λ ms h. (
      tt,
      pick-knows c.pick.ensures.picks {phase = Phase.Arrive}
          (record { strides = h.knows.strides; finished = h.knows.finished; arrived = refl; times = h.knows.times; slots = h.knows.slots }) refl,
      pick-point c.pick.ensures.picks ms old.desk.shape.workers f.desk h.knows.strides h.knows.finished
          ∙ sym (ap (λ b. cond b (point.Scan 0) (point.pick (model_desk old.desk) ms))
          (due-by c.arrivals-self.result f.desk c.is_due.ensures.due h.knows.finished ∙ c.if-is_due.false)),
    ))
