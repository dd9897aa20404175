use Rattle.std.proofs.Common.{[], ◌∷◌, ◌++◌, if◌then◌else◌, ap, ◌∙◌, arith}
use Rattle.worker_machine.proofs.kept.Core.keep.Goals as goal

pub returns-clause-pushed : goal.returns-clause-pushed
returns-clause-pushed c few =
    let was = c.args.self.now.records in
    let len = was.ok.0 in
    c.push-room.ensures.items
    ∙ ap (λ b. if b then was.items ++ c.args.record ∷ [] else was.items) (c.push-room.ensures.succeeds (omega (arith, few, len)))
