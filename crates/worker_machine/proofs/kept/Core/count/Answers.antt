use Rattle.std.proofs.Common.{refl}
use Rattle.worker_machine.proofs.Moving.{quiet-by}
use Rattle.worker_machine.proofs.Calls.{place-by}
use Rattle.worker_machine.proofs.kept.Core.count.Goals as goal

pub returns-clause-hand : goal.returns-clause-hand
returns-clause-hand g c =
    let old = g.S.Station.seen c.args.station.now in
    let f = c.requires.follows in
    place-by c.finished-self.ensures.made f.hand

pub returns-clause-moves : goal.returns-clause-moves
returns-clause-moves g c =
    quiet-by c.finished-self.ensures.made (λ ms. (refl, refl, refl)) (refl, refl, refl) refl (λ ms h. (
      tt,
      record {
        strides = h.knows.strides;
        finished = refl;
        arrived = h.knows.arrived;
        times = h.knows.times;
        slots = h.knows.slots;
      },
      refl,
    ))
