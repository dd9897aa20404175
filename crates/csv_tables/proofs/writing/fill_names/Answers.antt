use Rattle.std.proofs.Common.{◌≡◌, ◌<◌, ◌∙◌, ◌++◌, ◌∷◌, [], All, ap, arith, get_or, length, subst, sym, take}
use Rattle.std.proofs.lemmas.List.{take_all, take_more}
use Rattle.std.proofs.lemmas.List.Elements.{All-push}
use Rattle.std.proofs.lemmas.Option.{get_or_from_slice_get}
use Rattle.col_table.specs.Name.{IsName}
use Rattle.csv.specs.Records.{fields_of}
use Rattle.csv_tables.proofs.writing.fill_names.Goals as goal

pub loop-col-preserved : goal.loop-col-preserved
loop-col-preserved c =
    let names = c.args.table.now.names in
    let col = c.loop-col.col in
    let within : col < length names = omega (arith, c.cols-col-end.ensures.count) in
    let name = c.as_bytes.result.now in
    let read : name ≡ c.name.result.now = c.as_bytes.ensures.value ∙ c.as_str.ensures.text in
    let here : name ≡ get_or names col [] = read ∙ sym (get_or_from_slice_get names col c.name.result.now [] c.name.ensures) in
    let more = take_more names col [] within in
    record {
      partial = c.in_ok-push_field.ensures.partial;
      done =
          c.in_ok-push_field.ensures.fields
          ∙ ap (λ part. fields_of c.loop-col.fields ++ (part ++ name) ∷ []) c.loop-col.invariant.partial
          ∙ ap (λ fields. fields ++ name ∷ []) c.loop-col.invariant.done
          ∙ ap (λ last. take col names ++ last ∷ []) here
          ∙ sym more;
      legal = subst (All IsName) (sym more) (All-push IsName (take col names) (get_or names col []) c.loop-col.invariant.legal
          (subst IsName (sym read ∙ here) c.as_str.ensures.legal));
    }

pub returns : goal.returns
returns c =
    let names = c.args.table.now.names in
    let all : take c.loop-col.col names ≡ names = take_all c.loop-col.col names (omega (arith, c.cols-col-end.ensures.count)) in
    (c.loop-col.invariant.done ∙ all, subst (All IsName) all c.loop-col.invariant.legal)
