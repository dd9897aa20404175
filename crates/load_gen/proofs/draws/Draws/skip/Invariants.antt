use Rattle.std.proofs.Common.{◌≡◌}
use Rattle.load_gen.specs.Draws.{state_after}
use Rattle.load_gen.proofs.draws.Draws.skip.Given as goal

abbrev pub invariant-loop : goal.invariant-loop
invariant-loop l = l.self ≡ state_after l.initial.self l.counter
