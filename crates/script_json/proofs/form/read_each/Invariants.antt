use Rattle.std.proofs.Common.{◌≡◌, [], length, drop}
use Rattle.serde_json.specs.View.{items_view}
use Rattle.script_json.specs.Forms.{each}
use Rattle.script_json.proofs.form.read_each.Given as goal

abbrev pub invariant-loop-index : goal.invariant-loop-index
invariant-loop-index g l =
    record {
      count : length l.made.items ≡ l.index;
      rest : each (λ _. g.F.Form.reading l.form) [] (items_view l.items)
          ≡ each (λ _. g.F.Form.reading l.form) l.made.items (items_view (drop l.index l.items));
    }
