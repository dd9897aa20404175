use Rattle.std.proofs.Common.{◌*◌, ◌<◌, cond, refl, ap, ◌∙◌, subst}
use Rattle.slot_station.specs.declared.token.Holder.{Holder}
use Rattle.turn_model.specs.Points as point
use Rattle.worker_machine.proofs.Moving.{quiet-by, keeps-on, mind-on}
use Rattle.slot_station.specs.Desks.{Desk}
use Rattle.bench_cell.specs.declared.plan.Plan.{Plan}
use Rattle.worker_machine.proofs.Desks.{plan-of, some-workers, workers-of}
use Rattle.worker_machine.proofs.Steps.{admitted-puts, admitted-gives}
use Rattle.worker_machine.proofs.Tasks.{first-stage}
use Rattle.std.specs.Arc.{arc_value}
use Rattle.slot_history.specs.declared.shape.TheConstants.{STAGES}
use Rattle.worker_machine.specs.Loads.{load_of}
use Rattle.worker_machine.specs.Benches.{AreFresh}
use Rattle.std.proofs.Common.{None}
use Rattle.worker_machine.proofs.kept.Core.admit.Goals as goal

pub returns-then-make_first-clause-hand : goal.returns-then-make_first-clause-hand
returns-then-make_first-clause-hand g c =
    let f = c.requires.follows in
    let m = c.in-Got.ensures.made in
    let e = plan-of c.args.self.now f.desk in
    let some = first-stage (arc_value c.args.self.now.plan) c.args.self.now.arrived f.fits in
    let made = c.make_first.ensures in
    let same = made.same in
    admitted-puts c.args.self.now.benches.items c.make_first.new.self.benches.items m f.hand c.in-Got.ensures.query
    (subst (λ (p : Plan). 0 < (load_of p).stages c.args.self.now.arrived) e some) (some-workers c.args.self.now f.desk)
    (made.count c.if-make_first.true ∙ workers-of c.make_first.new.self (same ∙ f.desk))
    (subst (λ (D : Desk Plan). AreFresh D.subject (STAGES * c.args.self.now.arrived) D.shape.workers c.make_first.new.self.benches.items)
    (same ∙ f.desk) (made.fresh c.if-make_first.true))

pub returns-else-make_first-clause-hand : goal.returns-else-make_first-clause-hand
returns-else-make_first-clause-hand g c =
    let f = c.requires.follows in
    let e = plan-of c.args.self.now f.desk in
    let some = first-stage (arc_value c.args.self.now.plan) c.args.self.now.arrived f.fits in
    admitted-gives c.args.self.now.benches.items c.make_first.new.self.benches.items c.in-Got.ensures.made f.hand c.in-Got.ensures.query
    (subst (λ (p : Plan). 0 < (load_of p).stages c.args.self.now.arrived) e some)

pub returns-then-make_first-clause-moves : goal.returns-then-make_first-clause-moves
returns-then-make_first-clause-moves g c =
    quiet-by c.in-Got.ensures.made (λ ms. (refl, refl, refl))
    (c.make_first.ensures.mind.rest.shares, c.make_first.ensures.replies, c.make_first.ensures.records) refl
    (λ ms h. (h.knows.arrived, mind-on h.knows c.make_first.ensures.mind refl, refl))

pub returns-else-make_first-clause-moves : goal.returns-else-make_first-clause-moves
returns-else-make_first-clause-moves g c =
    let old = g.S.Station.seen c.args.station.now in
    let first = ap (λ (x : Holder). x.again) c.in-Got.ensures.query ∙ c.requires.follows.hand.3 in
    quiet-by c.in-Got.ensures.made (λ ms. (refl, refl, refl))
    (c.make_first.ensures.mind.rest.shares, c.make_first.ensures.replies, c.make_first.ensures.records)
    (ap (λ b. cond b c.admit.new.holder.query None) first)
    (λ ms h. (
      h.knows.arrived,
      mind-on h.knows c.make_first.ensures.mind refl,
      ap (λ b. cond b (point.Fetch old.desk.shape.workers) (point.Fill 0)) first,
    ))

pub returns-in-Lost-clause-moves : goal.returns-in-Lost-clause-moves
returns-in-Lost-clause-moves g c =
    quiet-by c.in-Lost.ensures.made (λ ms. (refl, refl, refl)) (refl, refl, refl) refl (λ ms h. (h.knows.arrived, keeps-on h.knows refl, refl))
