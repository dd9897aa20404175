-- A fall of the numbers is a fall of one number.
use Rattle.std.proofs.Common.{arith}
use Rattle.turn_model.specs.Measure.{admits, notes, claims, drops, FallsAsOne}

pub falls-as-one : FallsAsOne
falls-as-one d load S T before after (admits more within) low = omega (arith, more, within, low.sets, low.tuples, low.notices, low.workers)
falls-as-one d load S T before after (notes same fewer) low = omega (arith, same, fewer, low.tuples, low.notices, low.workers)
falls-as-one d load S T before after (claims same sets fewer) low = omega (arith, same, sets, fewer, low.notices, low.workers)
falls-as-one d load S T before after (drops same sets left fewer) low = omega (arith, same, sets, left, fewer, low.workers)
