use Rattle.std.proofs.Common.{◌≡◌, ◌∙◌, ◌++◌, ◌∷◌, [], FitsSigned, ap, arith, drop, length, map, of_z, slice_range, subst, sym, to_z, w64}
use Rattle.std.proofs.lemmas.Bool.{eq-eqb, ne_eqb}
use Rattle.std.proofs.lemmas.Int.{to_z-of_z}
use Rattle.std.proofs.lemmas.List.{length-set, length_push, map-append, take_all, take_more_set}
use Rattle.std.proofs.lemmas.List.Elements.{All-push}
use Rattle.csv.specs.declared.parser.State.TheVariants as st
use Rattle.csv_tables.specs.Numbers.{IsValue, number_of}
use Rattle.csv_tables.specs.Reading.{EndsField, reads_from}
use Rattle.csv_tables.proofs.Fields.{field_last, field_more}
use Rattle.csv_tables.proofs.Records.{record_at}
use Rattle.csv_tables.proofs.plain.read_plain_row.Goals as goal

pub loop-place-preserved : goal.loop-place-preserved
loop-place-preserved c =
    let bytes = c.args.bytes.now in
    let place = c.loop-place.place in
    let row = c.loop-place.row in
    let start = c.loop-place.start in
    let end = c.plain_end-end.result in
    let next = c.in_ok-start-2.start in
    let fields = c.loop-place.invariant.fields in
    let x = slice_range bytes start end in
    let reads = reads_from st.StartRecord (record { fields = []; field = [] }) (drop c.args.at bytes) in
    let value = c.in-Ok.ensures.value in
    let read = c.in-Ok.read in
    let fits = subst (FitsSigned w64) (sym value.1) value.0.1 in
    let so = c.loop-place.invariant.going (omega arith) in
    let ends = c.in_ok-start-2.ensures.ends in
    let width : length (lib.ListN.set row place (to_z w64 (of_z w64 read))) ≡ length row = length-set row place (to_z w64 (of_z w64 read)) in
    record {
      within = c.in_ok-start-2.ensures.within;
      fields = fields ++ x ∷ [];
      count = omega (arith, length_push fields x, c.loop-place.invariant.count);
      values = All-push IsValue fields x c.loop-place.invariant.values value.0;
      row =
          take_more_set row place (to_z w64 (of_z w64 read)) (omega arith)
          ∙ ap (λ front. front ++ to_z w64 (of_z w64 read) ∷ []) c.loop-place.invariant.row
          ∙ ap (λ last. map number_of fields ++ last ∷ []) (to_z-of_z w64 read fits ∙ value.1)
          ∙ sym (map-append number_of fields (x ∷ []));
      going = λ more. field_more bytes start end next fields reads c.plain_end-end.ensures so
          (subst (λ last. EndsField last (drop end bytes) (drop next bytes)) (ne_eqb _ _ (λ same. absurd (omega (arith, width, same, more)))) ends);
      ended = λ last. field_last bytes start end next fields reads c.plain_end-end.ensures so
          (subst (λ last. EndsField last (drop end bytes) (drop next bytes)) (eq-eqb _ _ (omega (arith, width, last))) ends);
    }

pub returns : goal.returns
returns c =
    let bytes = c.args.bytes.now in
    let row = c.loop-place.row in
    let inv = c.loop-place.invariant in
    let (after, ended) = inv.ended (omega arith) in (
      inv.fields,
      record_at bytes c.args.at c.loop-place.start inv.fields after inv.within ended,
      record { width = omega (arith, inv.count); values = inv.values },
      sym (take_all c.loop-place.place row (omega arith)) ∙ inv.row,
    )
