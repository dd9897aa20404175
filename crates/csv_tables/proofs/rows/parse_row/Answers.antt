use Rattle.std.proofs.Common.{◌<◌, ◌∙◌, ◌++◌, ◌∷◌, [], All, ap, arith, get_or, length, map, subst, sym, take, to_z, of_z, w64, FitsSigned}
use Rattle.std.proofs.lemmas.Int.{to_z-of_z}
use Rattle.std.proofs.lemmas.List.{length-set, map-append, take_more, take_more_set}
use Rattle.std.proofs.lemmas.List.Elements.{All-push}
use Rattle.csv.specs.Records.{fields_of}
use Rattle.csv_tables.specs.Numbers.{IsValue, number_of}
use Rattle.csv_tables.proofs.Refused.{field_refused}
use Rattle.csv_tables.proofs.rows.parse_row.Goals as goal

pub returns-in-Err-clause-refused : goal.returns-in-Err-clause-refused
returns-in-Err-clause-refused c =
    let fields = fields_of c.args.fields.now in
    let place = c.loop-place.place in
    let within : place < length fields = omega (arith, c.loop-place.invariant.width) in
    let here = sym c.field_of.ensures in
    rw c.refusal_at.ensures (field_refused (length c.args.row.now) c.args.number fields place c.field_of.result.now c.in-Err.fault c.requires.within
    (omega arith) within here c.loop-place.invariant.values c.in-Err.ensures.fault)

pub loop-place-preserved : goal.loop-place-preserved
loop-place-preserved c =
    let fields = fields_of c.args.fields.now in
    let place = c.loop-place.place in
    let row = c.loop-place.row in
    let within : place < length fields = omega (arith, c.loop-place.invariant.width) in
    let here = sym c.field_of.ensures in
    let value = c.in-Ok.ensures.value in
    let read = c.in-Ok.read in
    let fits = subst (FitsSigned w64) (sym value.1) value.0.1 in
    let stored = to_z-of_z w64 read fits ∙ value.1 ∙ ap number_of (sym here) in
    let more = take_more fields place [] within in
    record {
      width = length-set row place (to_z w64 (of_z w64 read)) ∙ c.loop-place.invariant.width;
      values = subst (All IsValue) (sym more) (All-push IsValue (take place fields) (get_or fields place []) c.loop-place.invariant.values
          (subst IsValue (sym here) value.0));
      row =
          take_more_set row place (to_z w64 (of_z w64 read)) (omega arith)
          ∙ ap (λ front. front ++ to_z w64 (of_z w64 read) ∷ []) c.loop-place.invariant.row
          ∙ ap (λ last. map number_of (take place fields) ++ last ∷ []) stored
          ∙ sym (map-append number_of (take place fields) (get_or fields place [] ∷ []))
          ∙ ap (map number_of) (sym more);
    }
