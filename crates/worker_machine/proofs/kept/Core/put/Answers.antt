use Rattle.std.proofs.Common.{◌≡◌, ◌+◌, ◌<◌, ◌≤◌, refl, sym, ap, ◌∙◌, subst, arith, rules}
use Rattle.turn_model.specs.Points as point
use Rattle.worker_machine.proofs.Moving.{exchanges-by, mind-on, rest-kept}
use Rattle.slot_station.specs.Desks.{Desk}
use Rattle.bench_cell.specs.declared.plan.Plan.{Plan}
use Rattle.worker_machine.proofs.Steps.{put-fits, put-on, puts-on}
use Rattle.worker_machine.specs.Loads.{model_desk}
use Rattle.worker_machine.proofs.Telling.{exchange-tells}
use Rattle.worker_machine.proofs.kept.Core.put.Goals as goal

pub cell-requires-clause-fits : goal.cell-requires-clause-fits
cell-requires-clause-fits g c =
    let old = g.S.Station.seen c.args.station.now in
    let f = c.requires.follows in
    let was = c.args.self.now.benches in
    put-fits old c.args.holder c.args.v was.len was.items c.pop-bench.result f.hand was.ok.0
    c.pop-bench.ensures.value (λ lt. search rules)

pub returns-then-v-self-clause-hand : goal.returns-then-v-self-clause-hand
returns-then-v-self-clause-hand g c =
    let was = c.args.self.now.benches in
    puts-on (put-on c.args.v was.len was.items c.pop-bench.new.self.items c.pop-bench.result c.requires.follows.hand c.cell.ensures.put
    c.cell.ensures.same was.ok.0 c.pop-bench.ensures.value (λ lt. search rules) c.pop-bench.ensures.rest)
    (subst (λ (D : Desk Plan). c.args.v + 1 < D.shape.workers) (c.requires.follows.desk ∙ sym c.cell.ensures.put.stays.desk) c.if-v-self.true)

pub returns-else-v-self-clause-hand : goal.returns-else-v-self-clause-hand
returns-else-v-self-clause-hand g c =
    let was = c.args.self.now.benches in
    let p = put-on c.args.v was.len was.items c.pop-bench.new.self.items c.pop-bench.result c.requires.follows.hand c.cell.ensures.put
    c.cell.ensures.same was.ok.0 c.pop-bench.ensures.value (λ lt. search rules) c.pop-bench.ensures.rest in
    let has = c.requires.follows.desk ∙ sym c.cell.ensures.put.stays.desk in
    let most = subst (λ (D : Desk Plan). D.shape.workers ≤ c.args.v + 1) has c.if-v-self.false in
    (p.noted, p.holds, p.may, λ u lt. p.done u (omega arith) (omega (arith, lt, most)))

pub returns-then-v-self-clause-moves : goal.returns-then-v-self-clause-moves
returns-then-v-self-clause-moves g c =
    exchanges-by c.cell.ensures.put.stays c.requires.follows.hand.low
    (λ ms k. mind-on k (record { strides = refl; rest = rest-kept refl refl refl refl refl }) refl) refl refl refl
    (λ ms h. exchange-tells (model_desk (g.S.Station.seen c.args.station.now).desk) ms (point.Fill c.args.v) h.point refl refl refl refl h.told)

pub returns-else-v-self-clause-moves : goal.returns-else-v-self-clause-moves
returns-else-v-self-clause-moves g c =
    let f = c.requires.follows in
    let most = subst (λ (x : Desk Plan). x.shape.workers ≤ c.args.v + 1) f.desk c.if-v-self.false in
    let low = f.hand.low in
    let all : (g.S.Station.seen c.args.station.now).desk.shape.workers ≡ c.args.v + 1 = omega (arith, most, low) in
    exchanges-by c.cell.ensures.put.stays low
    (λ ms k. mind-on k (record { strides = refl; rest = rest-kept refl refl refl refl refl }) refl) (ap point.Fill all) refl refl
    (λ ms h. exchange-tells (model_desk (g.S.Station.seen c.args.station.now).desk) ms (point.Fill c.args.v) h.point refl refl refl refl h.told)
