use Rattle.turn_model.specs.Runs.{nothing_done}
use Rattle.pool_run.proofs.Whole.{new-follows, new-played, new-ready, ends-with, ran-in-order, still-works}
use Rattle.pool_run.proofs.runs.run_counted.Goals as goal

pub play_order-requires-clause-follows : goal.play_order-requires-clause-follows
play_order-requires-clause-follows g c = new-follows c.requires.new

pub play_order-requires-clause-none : goal.play_order-requires-clause-none
play_order-requires-clause-none g c = λ _. new-ready c.requires.new

pub play_all-requires-clause-none : goal.play_all-requires-clause-none
play_all-requires-clause-none g c = λ whole. absurd (cc)

pub play_rounds-requires-clause-work : goal.play_rounds-requires-clause-work
play_rounds-requires-clause-work g c = still-works c.play_all.ensures.plays (still-works c.play_order.ensures.plays c.requires.work)

pub play_rounds-requires-clause-between : goal.play_rounds-requires-clause-between
play_rounds-requires-clause-between g c =
    let e = c.play_all.ensures in
    let x = c.play_order.ensures.plays.leads nothing_done (new-played c.requires.new g.M.Meter.may_take) in
    let y = e.plays.leads x.next x.played in
    record { run = y.next; played = y.played; follows = e.follows; none = e.none (λ one. absurd (cc)); legal = e.legal }

pub returns : goal.returns
returns g c =
    let order = c.play_order.ensures in
    let rounds = c.play_rounds.ensures in
    ends-with c.end.result
    (λ ran history told. ran-in-order ran c.args.stint c.args.order.now c.requires.new order.plays c.play_all.ensures.plays rounds.plays
    c.requires.stint c.requires.order order.follows order.none (record {
      follows = rounds.follows;
      over = rounds.over;
      limits = c.end.ensures.limits;
      work = still-works rounds.plays (still-works c.play_all.ensures.plays (still-works order.plays c.requires.work));
      legal = c.end.ensures.legal;
      history = history;
      told = told;
    }))
    c.end.ensures.history c.end.ensures.told
