use Rattle.std.proofs.Common.{◌≡◌, Some, Err, inr, sym, ap, ◌∙◌, subst}
use Rattle.serde_json.specs.Find.{as_array}
use Rattle.serde_json.specs.View.{items_view, view}
use Rattle.script_json.specs.Forms.{Gives, wrong_shape}
use Rattle.script_json.specs.Format.{joined_column, reference}
use Rattle.script_json.proofs.ArrayLemmas.{reference_among-other, reference_among-two}
use Rattle.script_json.proofs.queries.ReferenceFormForm.read.Goals as goal

pub returns-then-items-ne2 : goal.returns-then-items-ne2
returns-then-items-ne2 c =
    let vs = c.as_slice-items.result.now in
    let value = view c.args.value.now in
    let is : Some (items_view vs) ≡ as_array value = rw c.as_slice-items.ensures.value c.in-Some.ensures in
    let other : reference value ≡ Err wrong_shape = rw (sym is) (reference_among-other vs value c.if-items-ne2.true) in
    inr (other ∙ ap Err (sym c.wrong_shape.ensures))

pub returns : goal.returns
returns c =
    let vs = c.as_slice-items.result.now in
    let value = view c.args.value.now in
    let is : Some (items_view vs) ≡ as_array value = rw c.as_slice-items.ensures.value c.in-Some.ensures in
    let two : reference value ≡ joined_column (view c.index-items-0.result) (view c.index-items-1.result) =
    rw (sym is) (reference_among-two vs value c.index-items-0.result c.index-items-1.result c.if-items-ne2.false c.index-items-0.is c.index-items-1.is) in
    subst (λ said. Gives said c.read_joined.result) (sym two) c.read_joined.ensures
