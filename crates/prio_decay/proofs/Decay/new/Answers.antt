use Rattle.std.proofs.Common.{sym, arith}
use Rattle.prio_decay.proofs.Decays.{priority_after-held}
use Rattle.prio_decay.proofs.Decay.new.Goals as goal

pub invariant_of-result : goal.invariant_of-result
invariant_of-result c = (c.requires, sym (priority_after-held c.args.params 0 (omega arith)))
