use Rattle.std.proofs.Common.{◌<◌, sym, ap, subst, arith}
use Rattle.slot_station.specs.Desks.{Desk}
use Rattle.bench_cell.specs.declared.plan.Plan.{Plan}
use Rattle.worker_machine.proofs.Calls.{carry}
use Rattle.worker_machine.proofs.Outcomes.{asked-hand}
use Rattle.slot_station.specs.declared.token.Coordinator.{Coordinator}
use Rattle.worker_machine.specs.Plans.{IsTask}
use Rattle.std.proofs.Common.{◌∙◌}
use Rattle.worker_machine.specs.Outcomes.{IsAsked}
use Rattle.worker_machine.proofs.Moving.{quiet-by, place-made}
use Rattle.worker_machine.proofs.VisitMoves.{mark-moves, mark-quiet}
use Rattle.std.proofs.Common.{refl}
use Rattle.worker_machine.specs.Keeps.{takes_none}
use Rattle.worker_machine.specs.Loads.{model_desk}
use Rattle.worker_machine.proofs.Telling.{asked-gives}
use Rattle.worker_machine.proofs.kept.Core.ask.Goals as goal

pub returns-clause-hand : goal.returns-clause-hand
returns-clause-hand g c =
    let old = g.S.Station.seen c.args.station.now in
    let f = c.requires.follows in
    let m = c.mark_next.ensures.made in
    let e = c.mark_next.ensures.counts in
    asked-hand _ _ c.mark_next.new.coordinator c.asked.result c.asked.ensures.asked c.mark_next.ensures.coordinator
    (carry m (λ (D : Desk Plan). IsTask D.subject c.mark_next.new.coordinator.id)
    (subst (λ (x : Coordinator). IsTask old.desk.subject x.id) (sym e) f.hand.2))
    (carry m (λ (D : Desk Plan). c.mark_next.new.coordinator.asked < D.shape.workers)
    (subst (λ (x : Coordinator). x.asked < old.desk.shape.workers) (sym e) f.hand.1))

pub returns-clause-fits : goal.returns-clause-fits
returns-clause-fits g c =
    c.asked.ensures.fits c.args.self.now

pub returns-clause-nearer : goal.returns-clause-nearer
returns-clause-nearer g c =
    let old = g.S.Station.seen c.args.station.now in
    let f = c.requires.follows in
    let e = ap (λ (x : Coordinator). x.asked) c.mark_next.ensures.counts in
    c.asked.ensures.nearer old.desk _ (omega (arith, e, f.hand.1))

pub returns-clause-moves : goal.returns-clause-moves
returns-clause-moves g c =
    let old = g.S.Station.seen c.args.station.now in
    let f = c.requires.follows in
    let asks = subst (λ (x : Coordinator). IsAsked x c.asked.result) c.mark_next.ensures.counts c.asked.ensures.asked in
    quiet-by c.mark_next.ensures.made (mark-quiet takes_none (model_desk old.desk) c.mark_next.result) (refl, refl, refl)
    (asked-gives c.mark_next.new.coordinator c.asked.result c.asked.ensures.asked)
    (λ ms h. mark-moves (model_desk old.desk) ms c.mark_next.result c.args.coordinator c.asked.result
    (sym (place-made old ms h) ∙ f.hand.0.place) f.hand.0.workers f.hand.1 asks h.knows)
