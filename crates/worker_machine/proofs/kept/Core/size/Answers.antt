use Rattle.std.proofs.Common.{refl, sym, ap, ◌∙◌}
use Rattle.slot_history.specs.States.{held_at, next_id}
use Rattle.worker_machine.proofs.Holdings.{next-held}
use Rattle.worker_machine.proofs.Moving.{quiet-by, keeps-on, place-made}
use Rattle.slot_station.specs.Desks.{Desk}
use Rattle.bench_cell.specs.declared.plan.Plan.{Plan}
use Rattle.worker_machine.proofs.Steps.{size-fills}
use Rattle.std.specs.Arc.{arc_value}
use Rattle.bench_cell.specs.Plans.{total_of}
use Rattle.worker_machine.specs.Hands.{next_by}
use Rattle.worker_machine.proofs.kept.Core.size.Goals as goal

pub returns-clause-hand : goal.returns-clause-hand
returns-clause-hand g c =
    let f = c.requires.follows in
    size-fills c.args.self.now.benches.items c.args.self.now.benches.items c.set_total.ensures.made f.hand c.set_total.ensures.same
    (ap (λ (x : Desk Plan). total_of x.subject (next_by c.args.holder)) (sym f.desk) ∙ ap (total_of (arc_value c.args.self.now.plan))
    (sym c.next_of.ensures)
    ∙ ap (λ (p : Plan). total_of p c.next_of.result) (sym c.deref.ensures) ∙ c.task_total-total.ensures.total)

pub returns-clause-moves : goal.returns-clause-moves
returns-clause-moves g c =
    let f = c.requires.follows in
    let old = g.S.Station.seen c.args.station.now in
    let total =
    ap (λ (x : Desk Plan). total_of x.subject (next_by c.args.holder)) (sym f.desk) ∙ ap (total_of (arc_value c.args.self.now.plan))
    (sym c.next_of.ensures)
    ∙ ap (λ (p : Plan). total_of p c.next_of.result) (sym c.deref.ensures) ∙ c.task_total-total.ensures.total in
    quiet-by c.set_total.ensures.made (λ ms. (refl, refl, refl)) (refl, refl, refl) refl (λ ms h. (
      (
        refl,
        ap (λ p. total_of old.desk.subject (next_id (held_at p))) (sym (place-made old ms h))
            ∙ ap (total_of old.desk.subject) (next-held f.hand.1) ∙ total,
      ),
      keeps-on h.knows refl,
      refl,
    ))
