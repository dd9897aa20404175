use Rattle.std.proofs.Common.{◌≡◌, Some, Err, sym, ap, ◌∙◌, inr}
use Rattle.serde_json.specs.Find.{as_array}
use Rattle.serde_json.specs.View.{items_view, view}
use Rattle.script_json.proofs.ArrayLemmas.{items_of-long, items_of-short, items_of-within}
use Rattle.script_json.proofs.form.items_within.Goals as goal

pub returns-then-items-most-clause-items : goal.returns-then-items-most-clause-items
returns-then-items-most-clause-items c =
    let is : Some (items_view c.as_slice-items.result.now) ≡ as_array (view c.args.value.now) = rw c.as_slice-items.ensures.value c.in-Some.ensures in
    inr (items_of-long c.args.least c.args.most _ c.as_slice-items.result.now is c.if-items-most.true ∙ ap Err (sym c.too_many.ensures))

pub returns-then-items-least-clause-items : goal.returns-then-items-least-clause-items
returns-then-items-least-clause-items c =
    let is : Some (items_view c.as_slice-items.result.now) ≡ as_array (view c.args.value.now) = rw c.as_slice-items.ensures.value c.in-Some.ensures in
    inr (items_of-short c.args.least c.args.most _ c.as_slice-items.result.now is c.if-items-most.false c.if-items-least.true ∙ ap Err
    (sym c.wrong_shape-then-items-least.ensures))

pub returns-clause-items : goal.returns-clause-items
returns-clause-items c =
    let is : Some (items_view c.as_slice-items.result.now) ≡ as_array (view c.args.value.now) = rw c.as_slice-items.ensures.value c.in-Some.ensures in
    items_of-within c.args.least c.args.most _ c.as_slice-items.result.now is c.if-items-most.false c.if-items-least.false
