use Rattle.stride_set.specs.Slots.{active_in, pass_in}
use Rattle.stride_set.proofs.Spreads.{HasEnds}
use Rattle.stride_set.proofs.spread.Given as goal

abbrev pub invariant-loop-s : goal.invariant-loop-s
invariant-loop-s l = HasEnds l.s (active_in l.slots) (pass_in l.slots) l.least l.greatest
