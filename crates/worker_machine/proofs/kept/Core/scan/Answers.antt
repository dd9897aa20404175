use Rattle.std.proofs.Common.{◌+◌, ◌<◌, ◌≤◌, cond, lt-ltb, le-ltb, refl, sym, ap, ◌∙◌, subst}
use Rattle.turn_model.specs.Points as point
use Rattle.worker_machine.specs.Loads.{model_desk}
use Rattle.worker_machine.proofs.Moving.{quiet-by, keeps-on}
use Rattle.worker_machine.proofs.Picking.{pick-knows, pick-point}
use Rattle.slot_station.specs.Desks.{Desk}
use Rattle.bench_cell.specs.declared.plan.Plan.{Plan}
use Rattle.worker_machine.proofs.Calls.{place-by}
use Rattle.worker_machine.proofs.Outcomes.{picked-hand}
use Rattle.worker_machine.proofs.Telling.{picked-gives}
use Rattle.worker_machine.proofs.kept.Core.scan.Goals as goal

pub returns-else-s-self-clause-hand : goal.returns-else-s-self-clause-hand
returns-else-s-self-clause-hand g c =
    let f = c.requires.follows in
    let m = c.in-Taken.ensures.made in
    picked-hand (g.S.Station.seen c.reserve.new.self) _ c.args.self.now.slots c.pick.result c.pick.ensures.picked (place-by m f.hand.0)
    (ap (λ (D : Desk Plan). D.shape.slots) (f.desk ∙ sym m.desk))

pub returns-in-Got-clause-moves : goal.returns-in-Got-clause-moves
returns-in-Got-clause-moves g c =
    quiet-by c.in-Got.ensures.made (λ ms. (refl, refl, refl)) (refl, refl, refl) refl (λ ms h. (refl, keeps-on h.knows refl, refl))

pub returns-then-s-self-clause-moves : goal.returns-then-s-self-clause-moves
returns-then-s-self-clause-moves g c =
    let old = g.S.Station.seen c.args.station.now in
    let more = subst (λ (D : Desk Plan). c.args.s + 1 < D.shape.slots) c.requires.follows.desk c.if-s-self.true in
    quiet-by c.in-Taken.ensures.made (λ ms. (refl, refl, refl)) (refl, refl, refl) refl (λ ms h. (
      refl,
      keeps-on h.knows refl,
      sym (ap (λ b. cond b (point.Scan (c.args.s + 1)) (point.pick (model_desk old.desk) ms)) (lt-ltb _ _ more)),
    ))

pub returns-else-s-self-clause-moves : goal.returns-else-s-self-clause-moves
returns-else-s-self-clause-moves g c =
    let f = c.requires.follows in
    let old = g.S.Station.seen c.args.station.now in
    let last = subst (λ (D : Desk Plan). D.shape.slots ≤ c.args.s + 1) f.desk c.if-s-self.false in
    quiet-by c.in-Taken.ensures.made (λ ms. (refl, refl, refl))
    (c.pick.ensures.picks.rest.shares, c.pick.ensures.replies, c.pick.ensures.records) (picked-gives _ c.pick.result c.pick.ensures.picked)
    (λ ms h. (
      refl,
      pick-knows c.pick.ensures.picks h.knows refl,
      pick-point c.pick.ensures.picks ms old.desk.shape.workers f.desk h.knows.strides h.knows.finished
          ∙ sym (ap (λ b. cond b (point.Scan (c.args.s + 1)) (point.pick (model_desk old.desk) ms)) (le-ltb _ _ last)),
    ))
