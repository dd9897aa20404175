use Rattle.std.proofs.Common.{◌≡◌, ◌%◌, FitsSigned, ◌∙◌, ap, pos, rules, sym, refl, w64}
use Rattle.std.proofs.lemmas.Int.{to_z-of_z}
use Rattle.load_gen.specs.Draws.{next_state, signed_of, state_after}
use Rattle.load_gen.proofs.DrawsLemmas.{state_after-more, state_after-one}
use Rattle.load_gen.proofs.TablesLemmas.{same_three}
use Rattle.load_gen.proofs.tables.next_row_of_t.Goals as goal

pub returns : goal.returns
returns c =
    let state = c.args.draws.now in
    let first : c.value_below-key.new.self ≡ state_after state 1 = c.value_below-key.ensures.state ∙ sym (state_after-one state) in
    let second : c.value_below-group.new.self ≡ state_after state 2 =
    c.value_below-group.ensures.state ∙ ap next_state first ∙ sym (state_after-more state 1) in
    let third : c.signed-value.new.self ≡ state_after state 3 =
    c.signed-value.ensures.state ∙ ap next_state second ∙ sym (state_after-more state 2) in
    let key_fits : FitsSigned w64 c.value_below-key.result = search (rules, c.value_below-key.type_inv) in
    let group_fits : FitsSigned w64 c.value_below-group.result = search (rules, c.value_below-group.type_inv) in
    let value_fits : FitsSigned w64 c.signed-value.result = search (rules, c.signed-value.type_inv) in
    record {
      row = same_three _ _ _ _ _ _ _ refl
          (to_z-of_z w64 c.value_below-key.result key_fits ∙ c.value_below-key.ensures.draw
          ∙ ap (λ x. pos (x % 1000)) (sym c.value_below-key.ensures.state ∙ first))
          (to_z-of_z w64 c.value_below-group.result group_fits ∙ c.value_below-group.ensures.draw
          ∙ ap (λ x. pos (x % 16)) (sym c.value_below-group.ensures.state ∙ second))
          (to_z-of_z w64 c.signed-value.result value_fits ∙ c.signed-value.ensures.draw ∙ ap signed_of (sym c.signed-value.ensures.state ∙ third));
      draws = third;
    }
