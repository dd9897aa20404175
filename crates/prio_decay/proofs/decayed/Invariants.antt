use Rattle.std.proofs.Common.{◌≡◌}
use Rattle.prio_decay.specs.Priority.{priority_after}
use Rattle.prio_decay.proofs.decayed.Given as goal

abbrev pub invariant-loop-quantum : goal.invariant-loop-quantum
invariant-loop-quantum l = l.priority ≡ priority_after l.params l._quantum
