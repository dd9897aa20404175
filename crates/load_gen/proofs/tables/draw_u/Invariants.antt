use Rattle.std.proofs.Common.{◌≡◌, ◌+◌, pos}
use Rattle.load_gen.specs.Draws.{draw, each_below, state_after}
use Rattle.load_gen.proofs.tables.draw_u.Given as goal

abbrev pub invariant-loop-row : goal.invariant-loop-row
invariant-loop-row l = record {
  keys : l.keys.items ≡ each_below l.row (λ row. pos row);
  weights : l.weights.items ≡ each_below l.row (λ row. pos (draw l.fn.draws (row + 1) 100));
  draws : l.draws ≡ state_after l.fn.draws l.row;
}
