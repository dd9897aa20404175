use Rattle.std.proofs.Common.{◌/◌, ◌∙◌, arith}
use Rattle.prio_decay.proofs.Decays.{priority_after-bounds, priority_of-spent}
use Rattle.prio_decay.proofs.Decay.priority.Goals as goal

pub returns-clause-total : goal.returns-clause-total
returns-clause-total c =
    rw (← c.self.view_is) (λ total h. c.self.invariant.1 ∙ priority_of-spent _ total c.self.invariant.0 h)

pub returns-clause-least : goal.returns-clause-least
returns-clause-least c =
    omega (arith, priority_after-bounds c.self.inside.params c.self.invariant.0 (c.self.inside.spent / 2000000), c.self.invariant.1)

pub returns-clause-most : goal.returns-clause-most
returns-clause-most c =
    omega (arith, priority_after-bounds c.self.inside.params c.self.invariant.0 (c.self.inside.spent / 2000000), c.self.invariant.1)
