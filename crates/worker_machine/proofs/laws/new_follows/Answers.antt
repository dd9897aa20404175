use Rattle.std.proofs.Common.{sym, subst}
use Rattle.worker_machine.specs.Desks.{CoreFits}
use Rattle.worker_machine.specs.Hands.{InHand}
use Rattle.worker_machine.proofs.laws.new_follows.Goals as goal

pub returns : goal.returns
returns g c =
    let x = c.args.worker.now in
    let ready = sym c.requires.made.ready in
    record {
      desk = c.requires.made.desk_is;
      fits = subst (CoreFits x.core) ready tt;
      hand = subst (InHand (g.S.Station.seen c.args.station.now) x.core.benches.items) ready c.requires.free;
    }
