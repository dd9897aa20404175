use Rattle.std.proofs.Common.{◌<◌, ◌∙◌, subst, arith}
use Rattle.slot_station.specs.Desks.{Desk}
use Rattle.bench_cell.specs.declared.plan.Plan.{Plan}
use Rattle.worker_machine.proofs.Calls.{place-on, carry}
use Rattle.worker_machine.proofs.Desks.{some-workers}
use Rattle.worker_machine.proofs.Visits.{left-free, first-leaves}
use Rattle.worker_machine.proofs.Outcomes.{asked-hand}
use Rattle.worker_machine.specs.Plans.{IsTask}
use Rattle.worker_machine.specs.Hands.{CoordinatorFits}
use Rattle.std.proofs.Common.{refl, sym, ap}
use Rattle.slot_history.specs.declared.place.Place.{Place}
use Rattle.slot_history.specs.Steps.{left}
use Rattle.turn_model.specs.Points.{asked}
use Rattle.worker_machine.proofs.Moving.{quiet-by, keeps-on, place-made}
use Rattle.worker_machine.proofs.VisitMoves.{asked-chosen, first-asked}
use Rattle.worker_machine.specs.Loads.{model_desk}
use Rattle.worker_machine.proofs.Telling.{asked-gives}
use Rattle.worker_machine.proofs.kept.Core.leave.Goals as goal

pub returns-in-Some-clause-hand : goal.returns-in-Some-clause-hand
returns-in-Some-clause-hand g c =
    let old = g.S.Station.seen c.args.station.now in
    let f = c.requires.follows in
    let m = c.in-Left.ensures.made in
    let t = subst (CoordinatorFits old) c.in-Some.is f.hand.2 in
    let some = some-workers c.args.self.now f.desk in
    asked-hand _ _ c.in-Some.coordinator c.asked.result c.asked.ensures.asked (first-leaves m t.0)
    (carry m (λ (D : Desk Plan). IsTask D.subject c.in-Some.coordinator.id) t.1)
    (carry m (λ (D : Desk Plan). c.in-Some.coordinator.asked < D.shape.workers) (omega (arith, some, t.0.asked)))

pub returns-in-Some-clause-fits : goal.returns-in-Some-clause-fits
returns-in-Some-clause-fits g c =
    c.asked.ensures.fits c.args.self.now

pub returns-in-None-clause-hand : goal.returns-in-None-clause-hand
returns-in-None-clause-hand g c =
    let old = g.S.Station.seen c.args.station.now in
    let f = c.requires.follows in
    place-on c.in-Left.ensures.made ∙ left-free _ (subst (CoordinatorFits old) c.in-None.is f.hand.2)

pub returns-in-Some-clause-moves : goal.returns-in-Some-clause-moves
returns-in-Some-clause-moves g c =
    let old = g.S.Station.seen c.args.station.now in
    let t = subst (CoordinatorFits old) c.in-Some.is c.requires.follows.hand.2 in
    let asks = c.asked.ensures.asked in
    quiet-by c.in-Left.ensures.made (λ ms. (refl, refl, refl)) (refl, refl, refl) (asked-gives c.in-Some.coordinator c.asked.result asks) (λ ms h. (
      tt,
      keeps-on h.knows (sym (asked-chosen c.in-Some.coordinator c.asked.result asks _)),
      first-asked (model_desk old.desk) ms _ c.in-Some.coordinator c.asked.result asks t.0 (place-made old ms h)
          (some-workers c.args.self.now c.requires.follows.desk),
    ))

pub returns-in-None-clause-moves : goal.returns-in-None-clause-moves
returns-in-None-clause-moves g c =
    let old = g.S.Station.seen c.args.station.now in
    quiet-by c.in-Left.ensures.made (λ ms. (refl, refl, refl)) (refl, refl, refl) refl (λ ms h. (
      tt,
      keeps-on h.knows refl,
      sym (ap (λ (p : Place). asked old.desk.shape.workers (left p)) (sym (place-made old ms h))
          ∙ ap (asked old.desk.shape.workers) (left-free _ (subst (CoordinatorFits old) c.in-None.is c.requires.follows.hand.2))),
    ))

pub returns-in-Owe-clause-moves : goal.returns-in-Owe-clause-moves
returns-in-Owe-clause-moves g c =
    quiet-by c.in-Owe.ensures.made (λ ms. (refl, refl, refl)) (refl, refl, refl) refl (λ ms h. (tt, keeps-on h.knows refl, refl))
