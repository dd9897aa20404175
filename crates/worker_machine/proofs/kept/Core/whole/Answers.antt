use Rattle.std.proofs.Common.{refl, subst}
use Rattle.std.specs.Arc.{arc_value}
use Rattle.worker_machine.specs.Benches.{IsResultFor}
use Rattle.worker_machine.specs.Hands.{finalised_by}
use Rattle.worker_machine.proofs.FinishMoves.{ends-query}
use Rattle.worker_machine.proofs.kept.Core.whole.Goals as goal

pub returns-in-Answer-clause-finishes : goal.returns-in-Answer-clause-finishes
returns-in-Answer-clause-finishes c =
    let plan = arc_value c.args.self.now.plan in (
      refl,
      ends-query plan c.args.holder c.in-Answer.answer c.requires.held c.requires.again
          (subst (IsResultFor plan (finalised_by c.args.holder)) c.in-Answer.is c.requires.whole),
    )
