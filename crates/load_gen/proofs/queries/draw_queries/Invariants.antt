use Rattle.std.proofs.Common.{◌≡◌}
use Rattle.load_gen.specs.Draws.{each_below}
use Rattle.load_gen.specs.Queries.{query_of, state_before}
use Rattle.load_gen.proofs.queries.draw_queries.Given as goal

abbrev pub invariant-loop-place : goal.invariant-loop-place
invariant-loop-place l = record {
  queries : l.queries.items
      ≡ each_below l.place (λ place. query_of (state_before l.fn.draws place) place);
  draws : l.draws ≡ state_before l.fn.draws l.place;
}
