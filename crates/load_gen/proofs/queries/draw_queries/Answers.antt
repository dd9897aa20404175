use Rattle.std.proofs.Common.{◌++◌, ◌∷◌, [], ◌∙◌, ap, sym}
use Rattle.load_gen.specs.Draws.{each_below, next_state}
use Rattle.load_gen.specs.Queries.{after_filters, kind_of, query_of, state_before}
use Rattle.load_gen.proofs.DrawsLemmas.{each_below-more, each_below-zero, state_before-more, state_before-zero}
use Rattle.load_gen.proofs.queries.draw_queries.Goals as goal

pub loop-place-init : goal.loop-place-init
loop-place-init c = record {
  queries = c.in_ok-queries.ensures.items ∙ sym (each_below-zero (λ place. query_of (state_before c.args.draws.now place) place));
  draws = sym (state_before-zero c.args.draws.now);
}

pub loop-place-preserved : goal.loop-place-preserved
loop-place-preserved c =
    let state = c.args.draws.now in
    let place = c.loop-place.place in
    let made = each_below-more place (λ place. query_of (state_before state place) place) in
    record {
      queries =
          c.in_ok-push.ensures.items
          ∙ ap (λ queries. queries ++ c.in_ok-draw_query.field-0 ∷ []) c.loop-place.invariant.queries
          ∙ ap (λ query. each_below place (λ place. query_of (state_before state place) place) ++ query ∷ [])
          (c.in_ok-draw_query.ensures.query ∙ ap (λ before. query_of before place) c.loop-place.invariant.draws)
          ∙ sym made;
      draws =
          c.in_ok-draw_query.ensures.draws
          ∙ ap (λ before. after_filters (next_state (next_state before)) (kind_of place)) c.loop-place.invariant.draws
          ∙ sym (state_before-more state place);
    }
