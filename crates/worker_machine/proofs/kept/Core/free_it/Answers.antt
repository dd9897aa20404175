use Rattle.std.proofs.Common.{refl}
use Rattle.worker_machine.proofs.Moving.{quiet-by, keeps-on}
use Rattle.worker_machine.proofs.kept.Core.free_it.Goals as goal

pub returns-clause-moves : goal.returns-clause-moves
returns-clause-moves g c =
    quiet-by c.release.ensures.made (λ ms. (refl, refl, refl)) (refl, refl, refl) refl (λ ms h. (tt, keeps-on h.knows refl, refl))
