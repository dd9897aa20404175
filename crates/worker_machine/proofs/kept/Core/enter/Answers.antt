use Rattle.std.proofs.Common.{refl}
use Rattle.worker_machine.proofs.Moving.{quiet-by}
use Rattle.worker_machine.proofs.kept.Core.enter.Goals as goal

pub returns-clause-moves : goal.returns-clause-moves
returns-clause-moves g c =
    quiet-by c.enter.ensures.made (λ ms. (refl, refl, refl)) (refl, refl, refl) refl (λ ms h. (
      refl,
      record {
        strides = h.knows.strides;
        finished = h.knows.finished;
        arrived = h.knows.arrived;
        times = h.knows.times;
        slots = h.knows.slots;
      },
      refl,
    ))
