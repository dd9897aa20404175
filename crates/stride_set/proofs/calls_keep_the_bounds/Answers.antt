use Rattle.std.proofs.Common.{arith}
use Rattle.stride_set.specs.Strides.{new_strides}
use Rattle.stride_set.proofs.Bounds.{fold-bounded, new_strides-bounded, widest-fold}
use Rattle.stride_set.proofs.calls_keep_the_bounds.Goals as goal

pub returns-clause-bounded : goal.returns-clause-bounded
returns-clause-bounded c = λ slots calls lawful. fold-bounded calls (new_strides slots) (new_strides-bounded slots) lawful

pub returns-clause-widest : goal.returns-clause-widest
returns-clause-widest c = λ slots calls. omega (arith, widest-fold calls (new_strides slots))
