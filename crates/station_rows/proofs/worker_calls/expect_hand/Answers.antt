use Rattle.std.proofs.Common.{◌≡◌, rules, subst, sym}
use Rattle.slot_station.specs.Desks.{own_place}
use Rattle.station_rows.specs.Played.{IsHandAt}
use Rattle.station_rows.proofs.worker_calls.expect_hand.Goals as goal

pub returns : goal.returns
returns g c =
    let x = g.S.Station.seen c.args.worker.now.station.now in
    let d = x.desk.shape in
    let worker = c.worker-number in
    let expected = c.hand_at-expected in
    let same : c.args.worker.now.hand ≡ expected.result = search rules in
    let told = expected.ensures d (sym c.workers-workers.ensures) in
    let here = subst (λ w. IsHandAt d w c.args.worker.now.place expected.result) worker.ensures told in
    let there = subst (λ p. IsHandAt d x.desk.worker p expected.result) c.requires.0 here in
    (c.requires, subst (IsHandAt d x.desk.worker (own_place x)) (sym same) there)
