use Rattle.stride_set.specs.Slots.{active_in, pass_in}
use Rattle.stride_set.proofs.Choices.{HasChoice}
use Rattle.stride_set.proofs.choice.Given as goal

abbrev pub invariant-loop-s : goal.invariant-loop-s
invariant-loop-s l = HasChoice l.s (active_in l.slots) (pass_in l.slots) l.choice l.least
