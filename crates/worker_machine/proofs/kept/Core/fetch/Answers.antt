use Rattle.std.proofs.Common.{◌+◌, ◌<◌, ◌≤◌, sym, ◌∙◌, subst, arith}
use Rattle.slot_station.specs.Desks.{Desk}
use Rattle.bench_cell.specs.declared.plan.Plan.{Plan}
use Rattle.worker_machine.proofs.Calls.{carry-kept}
use Rattle.worker_machine.proofs.Desks.{workers-of, plan-of, is-one}
use Rattle.worker_machine.proofs.Steps.{fetch-on, fetches-on}
use Rattle.worker_machine.proofs.Outcomes.{finishing-hand}
use Rattle.worker_machine.proofs.Finishing.{fetched-for}
use Rattle.std.specs.Arc.{arc_value}
use Rattle.worker_machine.specs.Hands.{IsTaskHeld}
use Rattle.std.proofs.Common.{◌≡◌, refl, ap}
use Rattle.turn_model.specs.Points as point
use Rattle.worker_machine.proofs.Moving.{exchanges-by, mind-on, rest-kept}
use Rattle.worker_machine.proofs.FinishMoves.{finishing-chosen, finishing-point}
use Rattle.worker_machine.specs.Loads.{model_desk}
use Rattle.worker_machine.specs.declared.phase.Phase.TheVariants as phase
use Rattle.worker_machine.proofs.Finishing.{fetched-fit}
use Rattle.worker_machine.proofs.Moving.{place-made}
use Rattle.worker_machine.proofs.Recording.{fetch-told}
use Rattle.worker_machine.proofs.Telling.{fetch-tells, told-kept}
use Rattle.worker_machine.proofs.kept.Core.fetch.Goals as goal

pub unreachable-requires-in-Err : goal.unreachable-requires-in-Err
unreachable-requires-in-Err g c =
    let f = c.requires.follows in
    let full = c.in-Err.ensures.full in
    let room = c.args.self.now.room in
    let len = c.args.self.now.benches.ok.0 in
    let w = workers-of c.args.self.now f.desk in
    omega (arith, full, room, len, f.hand.count, f.hand.low, w)

pub returns-then-v-self-clause-hand : goal.returns-then-v-self-clause-hand
returns-then-v-self-clause-hand g c =
    fetches-on (fetch-on c.args.v c.args.self.now.benches.items c.push.new.self.items c.in-Some.bench c.requires.follows.hand c.cell.ensures.put
    c.cell.ensures.same c.in-Some.ensures.says c.in-Ok.ensures.items)
    (subst (λ (D : Desk Plan). c.args.v + 1 < D.shape.workers) (c.requires.follows.desk ∙ sym c.cell.ensures.put.stays.desk) c.if-v-self.true)

pub returns-else-v-self-clause-hand : goal.returns-else-v-self-clause-hand
returns-else-v-self-clause-hand g c =
    let f = c.requires.follows in
    let x = c.cell.ensures.put in
    let p = fetch-on c.args.v c.args.self.now.benches.items c.push.new.self.items c.in-Some.bench c.requires.follows.hand c.cell.ensures.put c.cell.ensures.same
    c.in-Some.ensures.says c.in-Ok.ensures.items in
    let most = carry-kept x.stays (λ (D : Desk Plan). D.shape.workers ≤ c.args.v + 1)
    (subst (λ (x : Desk Plan). x.shape.workers ≤ c.args.v + 1) f.desk c.if-v-self.false) in
    finishing-hand (g.S.Station.seen c.cell.new.self) c.gathered.new.self c.cell.new.holder c.gathered.result c.gathered.ensures.finishes
    (c.gathered.ensures.same ∙ f.desk ∙ sym x.stays.desk)
    (subst (λ pl. IsTaskHeld pl c.cell.new.holder) (sym (plan-of c.gathered.new.self
    (c.gathered.ensures.same ∙ f.desk ∙ sym x.stays.desk))) p.task) p.again p.holds (λ u lt. p.done u (omega arith) (omega (arith, lt, most)))

pub gathered-requires-clause-held : goal.gathered-requires-clause-held
gathered-requires-clause-held g c =
    subst (λ pl. IsTaskHeld pl c.cell.new.holder) (sym (plan-of c.args.self.now (c.requires.follows.desk ∙ sym c.cell.ensures.put.stays.desk)))
    (fetch-on c.args.v c.args.self.now.benches.items c.push.new.self.items c.in-Some.bench c.requires.follows.hand c.cell.ensures.put c.cell.ensures.same
    c.in-Some.ensures.says c.in-Ok.ensures.items).task

pub gathered-requires-clause-again : goal.gathered-requires-clause-again
gathered-requires-clause-again g c =
    (fetch-on c.args.v c.args.self.now.benches.items c.push.new.self.items c.in-Some.bench c.requires.follows.hand c.cell.ensures.put c.cell.ensures.same
    c.in-Some.ensures.says c.in-Ok.ensures.items).again

pub gathered-requires-clause-some : goal.gathered-requires-clause-some
gathered-requires-clause-some g c =
    let n = (fetch-on c.args.v c.args.self.now.benches.items c.push.new.self.items c.in-Some.bench c.requires.follows.hand c.cell.ensures.put
    c.cell.ensures.same c.in-Some.ensures.says c.in-Ok.ensures.items).count in omega (arith, n)

pub gathered-requires-clause-benches : goal.gathered-requires-clause-benches
gathered-requires-clause-benches g c =
    let low = c.requires.follows.hand.low in
    let has = c.requires.follows.desk ∙ sym c.cell.ensures.put.stays.desk in
    let p = fetch-on c.args.v c.args.self.now.benches.items c.push.new.self.items c.in-Some.bench c.requires.follows.hand c.cell.ensures.put c.cell.ensures.same
    c.in-Some.ensures.says c.in-Ok.ensures.items in
    let n = p.count in
    let last = c.if-v-self.false in
    let before = workers-of c.args.self.now c.requires.follows.desk in
    let after = workers-of c.args.self.now has in
    fetched-for (g.S.Station.seen c.cell.new.self) c.cell.new.holder c.push.new.self.items p.holds p.again p.known (is-one c.args.self.now has)
    (omega (arith, n, last, low, before, after)) p.fit (arc_value c.args.self.now.plan) (plan-of c.args.self.now has)

pub returns-then-v-self-clause-moves : goal.returns-then-v-self-clause-moves
returns-then-v-self-clause-moves g c =
    let old = g.S.Station.seen c.args.station.now in
    let f = c.requires.follows in
    exchanges-by c.cell.ensures.put.stays f.hand.low
    (λ ms k. mind-on k (record { strides = refl; rest = rest-kept refl refl refl refl refl }) refl) refl refl refl
    (λ ms h. fetch-tells (model_desk old.desk) ms c.args.v h.point (subst (λ (x : Desk Plan). c.args.v + 1 < x.shape.workers) f.desk c.if-v-self.true) refl refl refl h.told)

pub returns-else-v-self-clause-moves : goal.returns-else-v-self-clause-moves
returns-else-v-self-clause-moves g c =
    let old = g.S.Station.seen c.args.station.now in
    let f = c.requires.follows in
    let x = c.cell.ensures.put in
    let p = fetch-on c.args.v c.args.self.now.benches.items c.push.new.self.items c.in-Some.bench c.requires.follows.hand c.cell.ensures.put c.cell.ensures.same
    c.in-Some.ensures.says c.in-Ok.ensures.items in
    let w = workers-of c.args.self.now f.desk in
    let last = c.if-v-self.false in
    let all : c.args.v + 1 ≡ (g.S.Station.seen c.args.station.now).desk.shape.workers = omega (arith, w, last, f.hand.low) in
    let m = c.gathered.ensures.mind in
    let new = g.S.Station.seen c.cell.new.self in
    let has = f.desk ∙ sym x.stays.desk in
    let owner = ap (λ (y : Desk Plan). y.worker) has in
    let plan = plan-of c.args.self.now has in
    let n = p.count in
    let bs = c.push.new.self.items in
    let fit = fetched-fit new c.cell.new.holder bs p.holds p.known
    (omega (arith, n, all, ap (λ (y : Desk Plan). y.shape.workers) x.stays.desk)) p.fit (arc_value c.args.self.now.plan) plan in
    let one = is-one c.args.self.now has in
    exchanges-by {core = c.args.self.now} x.stays f.hand.low
    (λ ms k. mind-on k
    (record { strides = m.strides; rest = rest-kept m.rest.known m.rest.finished m.rest.arrived m.rest.times m.rest.shares })
    (sym (finishing-chosen c.gathered.new.self c.cell.new.holder c.gathered.result c.gathered.ensures.finishes _)))
    (finishing-point _ c.gathered.new.self c.cell.new.holder c.gathered.result c.gathered.ensures.finishes p.again ∙ ap point.Fetch (sym all))
    m.rest.shares c.gathered.ensures.replies
    (λ ms h. fetch-told old new x.stays c.cell.new.holder p.holds p.again p.known one p.task plan owner c.gathered.ensures.record fit
    c.gathered.ensures.replies (phase.Fetch c.args.holder c.args.v) refl ms (place-made old ms h)
    (ap point.Fetch (omega (arith, all)) ∙ h.point) (omega (arith, all))
    (told-kept c.args.self.now _ (phase.Fetch c.args.holder c.args.v) (phase.Fetch c.args.holder c.args.v) refl refl refl h.told))
