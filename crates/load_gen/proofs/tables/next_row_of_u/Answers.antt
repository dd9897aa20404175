use Rattle.std.proofs.Common.{◌%◌, FitsSigned, ◌∙◌, ap, pos, refl, rules, sym, w64}
use Rattle.std.proofs.lemmas.Int.{to_z-of_z}
use Rattle.load_gen.proofs.DrawsLemmas.{state_after-one}
use Rattle.load_gen.proofs.TablesLemmas.{same_two}
use Rattle.load_gen.proofs.tables.next_row_of_u.Goals as goal

pub returns : goal.returns
returns c =
    let weight_fits : FitsSigned w64 c.value_below-weight.result = search (rules, c.value_below-weight.type_inv) in
    let from_fits : FitsSigned w64 c.from.result = search (rules, c.from.type_inv) in
    record {
      row = same_two _ _ _ _ _ refl (to_z-of_z w64 c.from.result from_fits ∙ c.from.ensures)
          (to_z-of_z w64 c.value_below-weight.result weight_fits ∙ c.value_below-weight.ensures.draw
          ∙ ap (λ x. pos (x % 100)) (sym (state_after-one c.args.draws.now)));
      draws = c.value_below-weight.ensures.state;
    }
