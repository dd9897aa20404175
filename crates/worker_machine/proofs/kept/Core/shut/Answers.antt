use Rattle.std.proofs.Common.{[]}
use Rattle.worker_machine.proofs.Visits.{shut-lost, shut-won}
use Rattle.std.proofs.Common.{refl}
use Rattle.worker_machine.proofs.Moving.{quiet-by, rest-kept}
use Rattle.worker_machine.proofs.VisitMoves.{shut-knows}
use Rattle.std.proofs.Common.{ap}
use Rattle.slot_history.specs.States.{slot_of}
use Rattle.worker_machine.proofs.kept.Core.shut.Goals as goal

pub returns-in-Won-clause-hand : goal.returns-in-Won-clause-hand
returns-in-Won-clause-hand g c =
    let f = c.requires.follows in
    shut-won c.in-Won.ensures.made f.hand.0 c.in-Won.ensures.first f.hand.2 f.hand.3 []

pub returns-in-Lost-clause-hand : goal.returns-in-Lost-clause-hand
returns-in-Lost-clause-hand g c =
    let f = c.requires.follows in
    shut-lost c.in-Lost.ensures.made f.hand.0 f.hand.3 []

pub returns-in-Won-clause-moves : goal.returns-in-Won-clause-moves
returns-in-Won-clause-moves g c =
    quiet-by c.in-Won.ensures.made (λ ms. (refl, refl, refl)) (refl, refl, refl) refl
    (λ ms h. (
      tt,
      shut-knows (g.S.Station.seen c.args.station.now) ms h (ap slot_of c.requires.follows.hand.0.place) h.knows.strides refl
          (rest-kept refl refl refl refl refl) c.drop_slot.ensures,
      refl,
    ))

pub returns-in-Lost-clause-moves : goal.returns-in-Lost-clause-moves
returns-in-Lost-clause-moves g c =
    quiet-by c.in-Lost.ensures.made (λ ms. (refl, refl, refl)) (refl, refl, refl) refl
    (λ ms h. (
      tt,
      shut-knows (g.S.Station.seen c.args.station.now) ms h (ap slot_of c.requires.follows.hand.0.place) h.knows.strides refl
          (rest-kept refl refl refl refl refl) c.drop_slot.ensures,
      refl,
    ))
