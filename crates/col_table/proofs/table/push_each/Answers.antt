use Rattle.std.proofs.Common.{◌≡◌, ◌<◌, ◌∙◌, ◌++◌, ◌∷◌, [], ap, arith, below_more, get_or, length, pos, rules, sym, w64, FitsSigned}
use Rattle.std.proofs.lemmas.Int.{to_z-of_z}
use Rattle.std.proofs.lemmas.List.{get_or-set_other, get_or-set_same, length-set, map-set}
use Rattle.col_table.specs.Columns.{values_of}
use Rattle.col_table.specs.NamedRows.{value_in}
use Rattle.col_table.proofs.Stored.{get_or-values_of, length-values_of}
use Rattle.col_table.proofs.table.push_each.Goals as goal

pub loop-place-preserved : goal.loop-place-preserved
loop-place-preserved c =
    let columns = c.loop-place.columns in
    let place = c.loop-place.place in
    let pushed = c.push.new.self in
    let before = c.index-columns-place.result in
    let inside : place < length columns = omega (arith, c.loop-place.invariant.count) in
    let fits : FitsSigned w64 (get_or c.args.row.now place (pos 0)) = search rules in
    let items : pushed.items ≡ (get_or columns place before).items ++ value_in c.args.row.now place ∷ [] = rw c.unwrap.ensures at c.push.ensures.items
    ∙ ap (λ value. (get_or columns place before).items ++ value ∷ []) (to_z-of_z w64 (get_or c.args.row.now place (pos 0)) fits) in
    let sets = map-set (λ values. values.items) columns place pushed in
    record {
      count = length-set columns place pushed ∙ c.loop-place.invariant.count;
      each = below_more _ _
          (λ k h. ap (λ values. get_or values k []) sets ∙ get_or-set_other (values_of columns) place k pushed.items [] (omega arith) ∙
          c.loop-place.invariant.each k h)
          (ap (λ values. get_or values place []) sets
          ∙ get_or-set_same (values_of columns) place pushed.items [] (omega (arith, length-values_of columns))
          ∙ items
          ∙ ap (λ values. values ++ value_in c.args.row.now place ∷ [])
          (ap (λ column. column.items) (c.loop-place.invariant.rest place (omega arith) before) ∙ sym
          (get_or-values_of c.args.columns.now place before (omega arith))));
      rest = λ k h d. get_or-set_other columns place k pushed d (omega arith) ∙ c.loop-place.invariant.rest k (omega arith) d;
    }
