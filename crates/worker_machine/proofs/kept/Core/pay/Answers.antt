use Rattle.worker_machine.proofs.Calls.{place-by}
use Rattle.worker_machine.proofs.Desks.{some-workers}
use Rattle.worker_machine.proofs.Visits.{finalises}
use Rattle.std.proofs.Common.{refl}
use Rattle.worker_machine.proofs.Moving.{quiet-by, keeps-on, mind-on, rest-kept}
use Rattle.worker_machine.proofs.kept.Core.pay.Goals as goal

pub returns-in-Last-clause-hand : goal.returns-in-Last-clause-hand
returns-in-Last-clause-hand g c =
    let f = c.requires.follows in
    let m = c.in-Last.ensures.made in
    finalises _ _ m (place-by m f.hand.0.place) c.in-Last.ensures.holder f.hand.1 (λ v lt. m.notes v lt)
    (some-workers c.args.self.now f.desk) c.clear.ensures.items

pub returns-in-Last-clause-moves : goal.returns-in-Last-clause-moves
returns-in-Last-clause-moves g c =
    quiet-by c.in-Last.ensures.made (λ ms. (refl, refl, refl)) (refl, refl, refl) refl
    (λ ms h. (tt, mind-on h.knows (record { strides = refl; rest = rest-kept refl refl refl refl refl }) refl, refl))

pub returns-in-Done-clause-moves : goal.returns-in-Done-clause-moves
returns-in-Done-clause-moves g c =
    quiet-by c.in-Done.ensures.made (λ ms. (refl, refl, refl)) (refl, refl, refl) refl (λ ms h. (tt, keeps-on h.knows refl, refl))
