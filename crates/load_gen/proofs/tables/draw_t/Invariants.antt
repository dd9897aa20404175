use Rattle.std.proofs.Common.{◌≡◌, ◌+◌, ◌*◌, pos}
use Rattle.load_gen.specs.Draws.{draw, each_below, signed_draw, state_after}
use Rattle.load_gen.proofs.tables.draw_t.Given as goal

abbrev pub invariant-loop : goal.invariant-loop
invariant-loop l = record {
  keys : l.keys.items ≡ each_below l.counter (λ row. pos (draw l.fn.draws (3 * row + 1) 1000));
  groups : l.groups.items ≡ each_below l.counter (λ row. pos (draw l.fn.draws (3 * row + 2) 16));
  values : l.values.items ≡ each_below l.counter (λ row. signed_draw l.fn.draws (3 * row + 3));
  draws : l.draws ≡ state_after l.fn.draws (3 * l.counter);
}
