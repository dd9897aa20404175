use Rattle.std.proofs.Common.{refl}
use Rattle.worker_machine.proofs.Moving.{quiet-by, keeps-on}
use Rattle.std.proofs.Common.{◌∙◌}
use Rattle.worker_machine.proofs.Calls.{place-on}
use Rattle.worker_machine.proofs.Visits.{left-free}
use Rattle.worker_machine.proofs.kept.Core.early.Goals as goal

pub returns-in-Left-clause-hand : goal.returns-in-Left-clause-hand
returns-in-Left-clause-hand g c =
    let old = g.S.Station.seen c.args.station.now in
    let f = c.requires.follows in
    place-on c.in-Left.ensures.made ∙ left-free _ f.hand.2

pub returns-in-Left-clause-moves : goal.returns-in-Left-clause-moves
returns-in-Left-clause-moves g c =
    quiet-by c.in-Left.ensures.made (λ ms. (refl, refl, refl)) (refl, refl, refl) refl (λ ms h. (tt, keeps-on h.knows refl, refl))

pub returns-in-Owe-clause-moves : goal.returns-in-Owe-clause-moves
returns-in-Owe-clause-moves g c =
    quiet-by c.in-Owe.ensures.made (λ ms. (refl, refl, refl)) (refl, refl, refl) refl (λ ms h. (tt, keeps-on h.knows refl, refl))
